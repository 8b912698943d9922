-- The value of a line is found again from its figures. Assumes nothing.
use Prim.Native.Nat.{ℕ, zero, suc, ◌+◌, ◌*◌, ◌/◌, ◌%◌, ◌^◌, ◌≤◌, ◌<◌}
use native.Mathlib.Nat.{pow-suc}
use native.Mathlib.Omega.{arith}
use mathlib.Core.Path.{◌≡◌, refl, sym, ap, subst, ◌∙◌}
use mathlib.Core.Bool.{true, false}
use mathlib.Core.List.{List, [], ◌∷◌, ◌++◌, append_assoc}
use mathlib.Core.Logic.{◌↔◌, inl, inr}
use lib.Dec.{ltb}
use lib.ListN.{length, get_or, drop, take, length-append}
use lib.Seq.{take_at, take_all, get_or-append-add}
use borrow.Author.Tests.{ltb-true, ltb-false, lt-ltb}
use Rattle.std.specs.Prelude.{Option, Some, None, ◌==◌}
use Rattle.std.proofs.Common.{below_more}
use Rattle.std.specs.Option.{option_map}
use Rattle.std.specs.Char.{digit_value}
use Rattle.std.specs.List.{position, position_or_len}
use Rattle.std.specs.Str.Parse.{AllDigits, IsNumeral, digits_value}
use Rattle.std.proofs.lemmas.Bool.Decides.{nat_tests}
use Rattle.std.proofs.lemmas.Option.{same_Some}
use Rattle.std.proofs.lemmas.Int.Digits.{digits_push, digits_value_push, digits_value_more}
use Rattle.std.proofs.lemmas.Str.Parse.{digits_value-take-le}
use Rattle.std.proofs.lemmas.List.{get_or_append_left}
use Rattle.words.proofs.Tests.{at_most, equal, both, either, decided}
use Rattle.maintenance_pages.specs.declared.setting.Setting.{Setting}
use Rattle.maintenance_pages.specs.declared.setting.Setting.TheVariants.{ReceiveId, TransmitId, Speed, Voltage, WarningLevel, FaultLevel}
use Rattle.maintenance_pages.specs.Settings.{speed_number}
use Rattle.maintenance_pages.proofs.Promise.{promise as maintenance}
use Rattle.text.specs.Figures.{figure, hexadecimal, decimal_up_to}
use Rattle.text.proofs.Figures.{hexadecimal_length}
use Rattle.sheet_line.specs.Lines.{figures_of, line_text, may_hold}
use Rattle.sheet_line.specs.Promise.{MayHold}
use Rattle.sheet_line.specs.Number.{base_of, width_of, value_for, Counts}

-- ---- figures as digits

-- a digit is one of 0 to 9 or a letter
pub digit_within : (c : ℕ) → digit_value c < 36 → (48 ≤ c) × (c < 123)
digit_within c h = grind (arith, nat_tests)

digit_figure : (d : ℕ) → d < 16 → digit_value (figure d) ≡ d
digit_figure d h = grind (arith, nat_tests)

digit_decimal : (d : ℕ) → d < 10 → digit_value (48 + d) ≡ d
digit_decimal d h = grind (arith, nat_tests)

hexadecimal_digits : (w n : ℕ) → AllDigits 16 (hexadecimal w n)
unfolding hexadecimal
hexadecimal_digits zero n = tt
hexadecimal_digits (suc w) n =
    digits_push 16 (hexadecimal w (n / 16)) (figure (n % 16)) (hexadecimal_digits w (n / 16)) (rw (digit_figure (n % 16) (omega arith)) (omega arith))

hexadecimal_value : (w n : ℕ) → n < 16 ^ w → digits_value 16 (hexadecimal w n) ≡ n
unfolding hexadecimal
hexadecimal_value zero n h = let one : n < 1 = h in omega (arith, one)
hexadecimal_value (suc w) n h =
    digits_value_push 16 (hexadecimal w (n / 16)) (figure (n % 16))
    ∙ (let rest = hexadecimal_value w (n / 16) (omega (arith, h, pow-suc 16 w)) in let last = digit_figure (n % 16) (omega arith) in omega (arith, rest, last))

decimal_digits : (k n : ℕ) → IsNumeral 10 (decimal_up_to k n)
unfolding decimal_up_to
decimal_digits zero n = (omega arith, (rw (digit_decimal (n % 10) (omega arith)) (omega arith), tt))
decimal_digits (suc k) n =
    decided (ltb n 10)
    (λ t. rw t (omega arith, (rw (digit_decimal (n % 10) (omega arith)) (omega arith), tt)))
    (λ t. rw t (
      let l = length-append (decimal_up_to k (n / 10)) ((48 + n % 10) ∷ []) in omega (arith, l),
      digits_push 10 (decimal_up_to k (n / 10)) (48 + n % 10) (decimal_digits k (n / 10)).1 (rw (digit_decimal (n % 10) (omega arith)) (omega arith)),
    ))

decimal_value : (k n : ℕ) → n < 10 ^ suc k → digits_value 10 (decimal_up_to k n) ≡ n
unfolding decimal_up_to
decimal_value zero n h = let few : n < 10 = h in let last = digit_decimal (n % 10) (omega arith) in omega (arith, few, last)
decimal_value (suc k) n h =
    decided (ltb n 10)
    (λ t. rw t (let few = ltb-true n 10 t in let last = digit_decimal (n % 10) (omega arith) in omega (arith, few, last)))
    (λ t. rw t
    (digits_value_push 10 (decimal_up_to k (n / 10)) (48 + n % 10)
    ∙ (let rest = decimal_value k (n / 10) (omega (arith, h, pow-suc 10 (suc k))) in let last = digit_decimal (n % 10) (omega arith) in omega (arith, rest, last))))

-- ---- digits, a line feed, and anything after

-- the bytes are digits of a number of 32 bits, a line feed, and anything after
pub record Begins (base : ℕ) (s figures rest : List ℕ) : Type 0 where
  pub within : base ≤ 36
  pub digits : IsNumeral base figures
  pub small : digits_value base figures < 2 ^ 32
  pub same : s ≡ figures ++ (10 ∷ rest)

no_feed : (c : ℕ) → digit_value c < 36 → (c == 10) ≡ false
no_feed c h = let b = digit_within c h in grind (arith, nat_tests)

-- the line feed is the first
feed_place : (base : ℕ) (figures rest : List ℕ) → base ≤ 36 → AllDigits base figures → position_or_len (λ (b : ℕ). b == 10) (figures ++ (10 ∷ rest)) ≡ length figures
feed_place base [] rest h d = refl
feed_place base (c ∷ cs) rest h d = rw (no_feed c (let first = d.0 in omega (arith, first, h))) (let more = feed_place base cs rest h d.1 in omega (arith, more))

module _ (base : ℕ) (s figures rest : List ℕ) (x : Begins base s figures rest) where
  feed_at : position_or_len (λ (b : ℕ). b == 10) s ≡ length figures
  feed_at = ap (position_or_len (λ (b : ℕ). b == 10)) x.same ∙ feed_place base figures rest x.within x.digits.1

  pub feed_found : position (λ (b : ℕ). b == 10) s ≡ Some (length figures)
  feed_found = let at = feed_at in let l = ap length x.same ∙ length-append figures (10 ∷ rest) in rw (at, lt-ltb (length figures) (length s) (omega (arith, l))) refl

  pub figures_before : (end : ℕ) → position (λ (b : ℕ). b == 10) s ≡ Some end → take end s ≡ figures
  figures_before end e = ap (λ (t : List ℕ). take end t) x.same ∙ take_at figures (10 ∷ rest) end (sym (same_Some end (length figures) (sym e ∙ feed_found)))

-- ---- the figures one by one

digit_at : (base : ℕ) (figures : List ℕ) (i : ℕ) → AllDigits base figures → i < length figures → digit_value (get_or figures i 0) < base
digit_at base [] i d h = absurd (omega (arith, h))
digit_at base (c ∷ cs) zero d h = d.0
digit_at base (c ∷ cs) (suc i) d h = digit_at base cs i d.1 (omega (arith, h))

-- so many of them have been read, each is a figure, and this is their number
pub record Counting (base : ℕ) (s : List ℕ) (i n : ℕ) : Type 0 where
  pub figures : (k : ℕ) → k < i → digit_value (get_or s k 0) < base
  pub number : (figures rest : List ℕ) → Begins base s figures rest → (i ≤ length figures) × (n ≡ digits_value base (take i figures))

byte_after : (s figures rest : List ℕ) (c : ℕ) → s ≡ figures ++ (c ∷ rest) → get_or s (length figures) 0 ≡ c
byte_after s figures rest c same =
    ap (λ (l : List ℕ). get_or l (length figures) 0) same
    ∙ ap (λ (k : ℕ). get_or (figures ++ (c ∷ rest)) k 0) (let e : length figures ≡ length figures + 0 = omega arith in e)
    ∙ get_or-append-add figures (c ∷ rest) 0 0

module _ (base : ℕ) (s : List ℕ) (i n : ℕ) (within : base ≤ 36) (more : Counting base s i n) where
  -- a byte that is no line feed is one of the figures
  figure_there : (figures rest : List ℕ) → Begins base s figures rest → (get_or s i 0 ≡ 10 → ⊥) → (i < length figures) × (get_or s i 0 ≡ get_or figures i 0)
  figure_there figures rest x other =
      decided (ltb i (length figures))
      (λ t. let h = ltb-true i (length figures) t in (h, ap (λ (l : List ℕ). get_or l i 0) x.same ∙ get_or_append_left figures (10 ∷ rest) 0 i h))
      (λ t. let h = ltb-false i (length figures) t in
      let m = (more.number figures rest x).0 in
      let e : i ≡ length figures + 0 = omega (arith, h, m) in
      absurd (other (ap (λ (l : List ℕ). get_or l i 0) x.same ∙ ap (λ (k : ℕ). get_or (figures ++ (10 ∷ rest)) k 0) e ∙ get_or-append-add figures (10 ∷ rest) 0 0)))

  figure_digit : (figures rest : List ℕ) → Begins base s figures rest → (get_or s i 0 ≡ 10 → ⊥) → digit_value (get_or s i 0) < base
  figure_digit figures rest x other =
      let there = figure_there figures rest x other in
      subst (λ (b : ℕ). digit_value b < base) (sym there.1) (digit_at base figures i x.digits.1 there.0)

  figure_next : (figures rest : List ℕ) → Begins base s figures rest → (get_or s i 0 ≡ 10 → ⊥) → digits_value base (take (i + 1) figures) ≡ n * base + digit_value (get_or s i 0)
  figure_next figures rest x other =
      let there = figure_there figures rest x other in
      digits_value_more base figures i there.0
      ∙ ap (λ (k : ℕ). k * base + digit_value (get_or figures i 0)) (sym (more.number figures rest x).1)
      ∙ ap (λ (b : ℕ). n * base + digit_value b) (sym there.1)

  -- the figures that the bytes begin with are before a line feed
  before_feed : (figures rest : List ℕ) (c : ℕ) → get_or s i 0 ≡ 10 → AllDigits base figures → s ≡ figures ++ (c ∷ rest) → length figures ≤ i
  before_feed figures rest c feed d same =
      decided (ltb i (length figures))
      (λ t. let h = ltb-true i (length figures) t in
      let digit = digit_at base figures i d h in
      let figure : get_or s i 0 ≡ get_or figures i 0 = ap (λ (l : List ℕ). get_or l i 0) same ∙ get_or_append_left figures (c ∷ rest) 0 i h in
      let above = digit_within (get_or figures i 0) (omega (arith, digit, within)) in
      absurd (omega (arith, feed, figure, above)))
      (λ t. ltb-false i (length figures) t)

  -- at the line feed all of them have been read
  pub feed_counts : get_or s i 0 ≡ 10 → Counts base s (Some n)
  feed_counts feed =
      record {
        counted = λ figures rest d small same. let x : Begins base s figures rest = record { within = within; digits = d; small = small; same = same } in
            ap Some ((more.number figures rest x).1 ∙ ap (digits_value base) (take_all i figures (before_feed figures rest 10 feed d.1 same)));
        other = λ figures rest c d other none same.
            let at : get_or s (length figures) 0 ≡ c = byte_after s figures rest c same in
            let h = before_feed figures rest c feed d same in
            absurd
            (decided (ltb (length figures) i)
            (λ t. none (subst (λ (b : ℕ). digit_value b < base) at (more.figures (length figures) (ltb-true (length figures) i t))))
            (λ t. let g = ltb-false (length figures) i t in
            let e : i ≡ length figures = omega (arith, h, g) in
            other (sym at ∙ ap (λ (k : ℕ). get_or s k 0) (sym e) ∙ feed)));
      }

  -- there is no number where a byte is neither a figure nor the line feed,
  pub other_counts : (get_or s i 0 ≡ 10 → ⊥) → base ≤ digit_value (get_or s i 0) → Counts base s None
  other_counts other none =
      record {
        counted = λ figures rest d small same. let x : Begins base s figures rest = record { within = within; digits = d; small = small; same = same } in
            let digit = figure_digit figures rest x other in
            absurd (omega (arith, digit, none));
        other = λ _ _ _ _ _ _ _. refl;
      }

  -- nor where there are more than 32 bits
  pub large_counts : 1 ≤ base → (get_or s i 0 ≡ 10 → ⊥) → 2 ^ 32 ≤ n * base + digit_value (get_or s i 0) → Counts base s None
  large_counts some other large =
      record {
        counted = λ figures rest d small same. let x : Begins base s figures rest = record { within = within; digits = d; small = small; same = same } in
            let next = figure_next figures rest x other in
            let less = digits_value-take-le base figures (i + 1) some in
            let few : digits_value base figures < 4294967296 = small in
            let much : 4294967296 ≤ n * base + digit_value (get_or s i 0) = large in
            absurd (omega (arith, next, less, few, much));
        other = λ _ _ _ _ _ _ _. refl;
      }

  -- one figure more
  pub counting_more : (get_or s i 0 ≡ 10 → ⊥) → digit_value (get_or s i 0) < base → Counting base s (i + 1) (n * base + digit_value (get_or s i 0))
  counting_more other digit =
      record {
        figures = below_more _ _ more.figures digit;
        number = λ figures rest x. (let there = figure_there figures rest x other in let h = there.0 in (omega (arith, h), sym (figure_next figures rest x other)));
      }

-- ---- the value of a line

-- the number that a line shows
abbrev pub shown : Setting → ℕ → ℕ
shown ReceiveId v = v
shown TransmitId v = v
shown Speed v = speed_number v
shown Voltage v = v
shown WarningLevel v = v
shown FaultLevel v = v

-- what a line may hold, in plain numbers
pub may_hold_lem : (setting : Setting) (v : ℕ) → may_hold setting v ≡ true ↔ MayHold setting v
may_hold_lem ReceiveId v = at_most v _
may_hold_lem TransmitId v = at_most v _
may_hold_lem Speed v = either _ _ (equal v _) (equal v _)
may_hold_lem Voltage v = at_most v _
may_hold_lem WarningLevel v = both _ _ (at_most _ v) (at_most v _)
may_hold_lem FaultLevel v = both _ _ (at_most _ v) (at_most v _)

shown_small : (setting : Setting) (v : ℕ) → MayHold setting v → shown setting v < 2147483648
shown_small ReceiveId v h = omega (arith, h)
shown_small TransmitId v h = omega (arith, h)
shown_small Speed v h = let few = maintenance.speeds.figures v in omega (arith, few)
shown_small Voltage v h = omega (arith, h)
shown_small WarningLevel v h = let most = h.1 in omega (arith, most)
shown_small FaultLevel v h = let most = h.1 in omega (arith, most)

hexadecimal_numeral : (v : ℕ) → IsNumeral 16 (hexadecimal 8 v)
hexadecimal_numeral v = (let l = hexadecimal_length 8 v in omega (arith, l), hexadecimal_digits 8 v)

figures_numeral : (setting : Setting) (v : ℕ) → IsNumeral (base_of setting) (figures_of setting v)
figures_numeral ReceiveId v = hexadecimal_numeral v
figures_numeral TransmitId v = hexadecimal_numeral v
figures_numeral Speed v = decimal_digits 9 (speed_number v)
figures_numeral Voltage v = decimal_digits 9 v
figures_numeral WarningLevel v = decimal_digits 9 v
figures_numeral FaultLevel v = decimal_digits 9 v

-- the figures of a number below 2147483648 stand for it
figures_value : (setting : Setting) (v : ℕ) → shown setting v < 2147483648 → digits_value (base_of setting) (figures_of setting v) ≡ shown setting v
figures_value ReceiveId v small = hexadecimal_value 8 v (let h : v < 4294967296 = omega (arith, small) in h)
figures_value TransmitId v small = hexadecimal_value 8 v (let h : v < 4294967296 = omega (arith, small) in h)
figures_value Speed v small = decimal_value 9 (speed_number v) (let h : speed_number v < 10000000000 = omega (arith, small) in h)
figures_value Voltage v small = decimal_value 9 v (let h : v < 10000000000 = omega (arith, small) in h)
figures_value WarningLevel v small = decimal_value 9 v (let h : v < 10000000000 = omega (arith, small) in h)
figures_value FaultLevel v small = decimal_value 9 v (let h : v < 10000000000 = omega (arith, small) in h)

-- the figures of a line, and what follows them
figures_there : (setting : Setting) (v : ℕ) (rest : List ℕ) → drop (width_of setting) (line_text setting v ++ rest) ≡ figures_of setting v ++ (10 ∷ rest)
unfolding line_text
figures_there ReceiveId v rest = append_assoc (figures_of ReceiveId v) (10 ∷ []) rest
figures_there TransmitId v rest = append_assoc (figures_of TransmitId v) (10 ∷ []) rest
figures_there Speed v rest = append_assoc (figures_of Speed v) (10 ∷ []) rest
figures_there Voltage v rest = append_assoc (figures_of Voltage v) (10 ∷ []) rest
figures_there WarningLevel v rest = append_assoc (figures_of WarningLevel v) (10 ∷ []) rest
figures_there FaultLevel v rest = append_assoc (figures_of FaultLevel v) (10 ∷ []) rest

pub base_within : (setting : Setting) → base_of setting ≤ 36
base_within ReceiveId = omega arith
base_within TransmitId = omega arith
base_within Speed = omega arith
base_within Voltage = omega arith
base_within WarningLevel = omega arith
base_within FaultLevel = omega arith

line_begins : (setting : Setting) (v : ℕ) (s rest : List ℕ) → may_hold setting v ≡ true → s ≡ line_text setting v ++ rest → Begins (base_of setting) (drop (width_of setting) s) (figures_of setting v) rest
line_begins setting v s rest l e =
    let small = shown_small setting v ((may_hold_lem setting v).0 l) in
    let value = figures_value setting v small in
    record {
      within = base_within setting;
      digits = figures_numeral setting v;
      small = let few : digits_value (base_of setting) (figures_of setting v) < 4294967296 = omega (arith, value, small) in few;
      same = ap (drop (width_of setting)) e ∙ figures_there setting v rest;
    }

speed_back : (v : ℕ) → MayHold Speed v → value_for Speed (speed_number v) ≡ v
speed_back v (inl e) = rw e refl
speed_back v (inr e) = rw e refl

value_back : (setting : Setting) (v : ℕ) → may_hold setting v ≡ true → value_for setting (shown setting v) ≡ v
value_back ReceiveId v l = refl
value_back TransmitId v l = refl
value_back Speed v l = speed_back v ((may_hold_lem Speed v).0 l)
value_back Voltage v l = refl
value_back WarningLevel v l = refl
value_back FaultLevel v l = refl

-- the value of the figures of a line
figures_back : (setting : Setting) (v : ℕ) → may_hold setting v ≡ true → value_for setting (digits_value (base_of setting) (figures_of setting v)) ≡ v
figures_back setting v l = ap (value_for setting) (figures_value setting v (shown_small setting v ((may_hold_lem setting v).0 l))) ∙ value_back setting v l

-- the value is found, whatever follows the line, and the number that shows it is below 2147483648
pub value_found : (setting : Setting) (v : ℕ) (s rest : List ℕ) (found : Option ℕ) → may_hold setting v ≡ true → Counts (base_of setting) (drop (width_of setting) s) found → s ≡ line_text setting v ++ rest → (option_map (value_for setting) found ≡ Some v) × ((n : ℕ) → found ≡ Some n → n < 2147483648)
value_found setting v s rest found l x e =
    let b = line_begins setting v s rest l e in
    let there = x.counted (figures_of setting v) rest b.digits b.small b.same in
    let few = shown_small setting v ((may_hold_lem setting v).0 l) in
    let value = figures_value setting v few in (
      ap (option_map (value_for setting)) there ∙ ap Some (figures_back setting v l),
      λ n q. (let same = same_Some n (digits_value (base_of setting) (figures_of setting v)) (sym q ∙ there) in omega (arith, same, value, few)),
    )

-- two lines of a setting with anything after them: the same value
pub values_apart : (setting : Setting) (v w : ℕ) (rest rest' : List ℕ) → may_hold setting v ≡ true → may_hold setting w ≡ true → line_text setting v ++ rest ≡ line_text setting w ++ rest' → v ≡ w
values_apart setting v w rest rest' l l' e =
    let s = line_text setting v ++ rest in
    let x = line_begins setting v s rest l refl in
    let y = line_begins setting w s rest' l' e in
    let t = drop (width_of setting) s in
    let same : figures_of setting v ≡ figures_of setting w = sym (figures_before (base_of setting) t (figures_of setting v) rest x (length (figures_of setting w)) (feed_found (base_of setting) t (figures_of setting w) rest' y)) ∙ figures_before (base_of setting) t (figures_of setting w) rest' y (length (figures_of setting w)) (feed_found (base_of setting) t (figures_of setting w) rest' y) in
    sym (figures_back setting v l) ∙ ap (λ (f : List ℕ). value_for setting (digits_value (base_of setting) f)) same ∙ figures_back setting w l'
