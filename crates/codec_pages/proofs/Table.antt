-- The table: which rows a multiplexer is not in, and the one that it is in. Assumes nothing.
use Prim.Native.Nat.{ℕ, zero, suc, ◌+◌, ◌-◌, ◌≤◌, ◌<◌}
use mathlib.Core.Path.{◌≡◌, refl, ap, sym, subst, ◌∙◌}
use mathlib.Core.Bool.{Bool, true, false, ◌&&◌, ◌||◌, and-false}
use mathlib.Core.List.{List, [], ◌∷◌, ◌++◌}
use mathlib.Core.Option.{Option, none, some}
use mathlib.Core.Logic.{◌⊎◌, inl, inr, ⊎_elim}
use native.Mathlib.Omega.{arith}
use borrow.Author.Tests.{le-leb, lt-leb}
use lib.Dec.{T, leb, leb→le}
use lib.ListN.{get_or, take, drop}
use mir.Facts.{and_yes, or_yes}
use Rattle.std.specs.Prelude.{Ok, Err}
use Rattle.words.proofs.Tests.{decided, false_true}
use Rattle.refusal.specs.declared.Refusal.TheVariants.{NotListed}
use Rattle.codec_pages.specs.declared.rows.Kind.{Kind}
use Rattle.codec_pages.specs.declared.rows.Kind.TheVariants.{Sim100, Sim101}
use Rattle.codec_pages.specs.declared.rows.Row.TheVariants.{MuxE0, Mux01To0B}
use Rattle.codec_pages.specs.Table.{listed, Entry, entry, covers, entry_in, entry_of, as_row, row_of, no_word, report_table, own, common, request_length}

-- ---- covers

missed : (e : Entry) (m : ℕ) → (e.last < m) ⊎ (m < e.first) → covers e m ≡ false
missed e m (inl h) = rw (lt-leb m e.last h) (and-false (leb e.first m))
missed e m (inr h) = rw (lt-leb e.first m h)

refuted : (b : Bool) → (T b → ⊥) → b ≡ false
refuted true f = absurd (f tt)
refuted false f = refl

-- a row of one multiplexer, and another multiplexer
pub apart : (x m : ℕ) → (m ≡ x → ⊥) → (leb x m && leb m x) ≡ false
apart x m n =
    refuted (leb x m && leb m x)
    (λ t. let both = and_yes (leb x m) (leb m x) t in n (omega (arith, leb→le x m both.0, leb→le m x both.1)))

-- ---- entry_in

-- no row has a multiplexer strictly between the two
abbrev pub clear : List Entry → ℕ → ℕ → Bool
clear [] low high = true
clear (e ∷ es) low high = (leb e.last low || leb high e.first) && clear es low high

past : (es rest : List Entry) (low high m : ℕ) → T (clear es low high) → low < m → m < high → entry_in (es ++ rest) m ≡ entry_in rest m
past [] rest low high m t h k = refl
past (e ∷ es) rest low high m t h k =
    let both = and_yes (leb e.last low || leb high e.first) (clear es low high) t in
    let out : (e.last < m) ⊎ (m < e.first) =
    ⊎_elim
    (λ x. inl (omega (arith, leb→le e.last low x)))
    (λ y. inr (omega (arith, leb→le high e.first y)))
    (or_yes (leb e.last low) (leb high e.first) both.0) in
    rw (missed e m out) (past es rest low high m both.1 h k)

-- ---- entry_of

-- the entries by their place: E0 to E5, the words, then what the kind alone has
abbrev pub at : Kind → ℕ → Entry
at k i = get_or (report_table k) i (entry 0 0 MuxE0 0 0 [] [])

-- a multiplexer where the common entries have none, and that the kind alone has not
pub not_listed : (k : Kind) (low high m : ℕ) → T (clear (common k) low high) → low < m → m < high → entry_in (own k) m ≡ none → row_of k m ≡ Err NotListed
unfolding entry_of
not_listed k low high m t h l o = ap as_row (past (common k) (own k) low high m t h l ∙ o)

-- 01 to 0B
pub word_entry : (k : Kind) (m : ℕ) → 0x01 ≤ m → m ≤ 0x0B → entry_of k m ≡ some (at k 6)
unfolding entry_of
word_entry k m h l =
    past (take 6 (report_table k)) (drop 6 (report_table k)) 0 0x0C m tt (omega arith) (omega arith)
    ∙ rw (le-leb 0x01 m h, le-leb m 0x0B l) refl

pub word_row : (k : Kind) (m : ℕ) → 0x01 ≤ m → m ≤ 0x0B → row_of k m ≡ Ok (listed Mux01To0B 5 (request_length k))
word_row k m h l = ap as_row (word_entry k m h l)

pub word_listed : (k : Kind) (m : ℕ) → 0x01 ≤ m → m ≤ 0x0B → no_word (row_of k m) ≡ false
word_listed k m h l = ap no_word (word_row k m h l)

-- what holds of a multiplexer and its entry, whichever that is: shown entry by entry
module _ (P : ℕ → Option Entry → Type 0) where
  abbrev pub Each : List Entry → Type 0
  Each [] = Unit
  Each (l ∷ ls) = ((m : ℕ) → l.first ≤ m → m ≤ l.last → P m (some l)) × Each ls

  each : (ls : List Entry) (m : ℕ) → P m none → Each ls → P m (entry_in ls m)
  each [] m n h = n
  each (l ∷ ls) m n h =
      decided (covers l m)
      (λ t. let both = and_yes (leb l.first m) (leb m l.last) (subst T (sym t) tt) in rw t (h.0 m (leb→le l.first m both.0) (leb→le m l.last both.1)))
      (λ f. rw f (each ls m n h.1))

  pub by_entry : (k : Kind) (m : ℕ) → P m none → Each (report_table k) → P m (entry_of k m)
  unfolding entry_of
  by_entry k m n h = each (report_table k) m n h

-- a word is found at 01 to 0B alone
abbrev Word : ℕ → Option Entry → Type 0
Word m o = no_word (as_row o) ≡ false → (0x01 ≤ m) × (m ≤ 0x0B)

own_words : (k : Kind) → Each Word (own k)
own_words Sim100 = ((λ m h l e. false_true e), tt)
own_words Sim101 = ((λ m h l e. false_true e), tt)

pub word_only : (k : Kind) (m : ℕ) → no_word (row_of k m) ≡ false → (0x01 ≤ m) × (m ≤ 0x0B)
word_only k m =
    let no : (l : Entry) (m : ℕ) → l.first ≤ m → m ≤ l.last → true ≡ false → (0x01 ≤ m) × (m ≤ 0x0B) = λ l m h g e. false_true e in
    by_entry Word k m (λ e. false_true e)
    (no (at k 0), (no (at k 1), (no (at k 2), (no (at k 3), (no (at k 4), (no (at k 5), ((λ m h l e. (omega arith, omega arith)), own_words k)))))))

-- an entry of one multiplexer
pub just : (x : ℕ) (P : ℕ → Type 0) → P x → (m : ℕ) → x ≤ m → m ≤ x → P m
just x P p m h l =
    let e : x ≡ m = omega arith in
    subst P e p

-- E0 to E5, one by one
module _ (P : ℕ → Type 0) (p0 : P 0xE0) (p1 : P 0xE1) (p2 : P 0xE2) (p3 : P 0xE3) (p4 : P 0xE4) (p5 : P 0xE5) where
  six_from : (i : ℕ) → i < 6 → P (0xE0 + i)
  six_from zero h = p0
  six_from (suc zero) h = p1
  six_from (suc (suc zero)) h = p2
  six_from (suc (suc (suc zero))) h = p3
  six_from (suc (suc (suc (suc zero)))) h = p4
  six_from (suc (suc (suc (suc (suc zero))))) h = p5
  six_from (suc (suc (suc (suc (suc (suc i)))))) h = absurd (omega arith)

  pub six : (m : ℕ) → 0xE0 ≤ m → m ≤ 0xE5 → P m
  six m h l =
      let e : 0xE0 + (m - 0xE0) ≡ m = omega arith in
      subst P e (six_from (m - 0xE0) (omega arith))
