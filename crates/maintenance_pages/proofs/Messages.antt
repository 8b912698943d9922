-- Messages: whatever order the kinds are asked for in, the definition says the same; and what is heard, and which answer is right. Assumes nothing.
use Prim.Native.Nat.{ℕ, ◌<◌, ◌≤◌}
use mathlib.Core.Path.{◌≡◌, refl, ap}
use mathlib.Core.Bool.{Bool, true, false, ◌&&◌}
use mathlib.Core.List.{List, [], ◌∷◌}
use mathlib.Core.Logic.Iff
use mathlib.Core.Logic.{◌↔◌, ◌⊎◌}
use lib.Dec.{eqb, leb, lit<}
use lib.ListN.{get_or}
use borrow.Author.Tests.{eqb-true, eq-eqb, ne_eqb, leb-true}
use native.Mathlib.Omega.{arith}
use Rattle.words.proofs.Tests.{and_right, and_false, at_most, equal, both, either}
use Rattle.codec_pages.specs.declared.frame.Frame.{Frame}
use Rattle.codec_pages.specs.Table.{part, number_at}
use Rattle.maintenance_pages.specs.declared.message.Message.TheVariants.{Other, Unlock, Commit, Answer, SerialRequest}
use Rattle.maintenance_pages.specs.Settings.{setting_of}
use Rattle.maintenance_pages.specs.Messages.{byte, is_unlock, is_commit, is_answer, asks_serial, word_asked, as_read, as_write, message, same_seven}
use Rattle.maintenance_pages.specs.Means.{Begins, Tells, right_bytes}
use Rattle.maintenance_pages.specs.Promise.{HeardMeans, RightMeans}

-- ---- the tests in plain words

-- a length and three bytes, whatever they are
three_equal : (f : Frame) (n a b c : ℕ) → (eqb f.length n && eqb (byte f 0) a && eqb (byte f 1) b && eqb (byte f 2) c) ≡ true ↔ (((f.length ≡ n) × (byte f 0 ≡ a)) × (byte f 1 ≡ b)) × (byte f 2 ≡ c)
three_equal f n a b c = both _ _ (both _ _ (both _ _ (equal f.length n) (equal (byte f 0) a)) (equal (byte f 1) b)) (equal (byte f 2) c)

three_means : (f : Frame) (n a b c : ℕ) → (eqb f.length n && eqb (byte f 0) a && eqb (byte f 1) b && eqb (byte f 2) c) ≡ true ↔ Begins f n (a ∷ b ∷ c ∷ [])
three_means f n a b c = (
  λ t. let q = (three_equal f n a b c).0 t in (q.0.0.0, rw (q.0.0.1, q.0.1, q.1) refl),
  λ t. (three_equal f n a b c).1 (((t.0, ap (λ (l : List ℕ). get_or l 0 0) t.1), ap (λ (l : List ℕ). get_or l 1 0) t.1), ap (λ (l : List ℕ). get_or l 2 0) t.1),
)

pub unlock_means : (f : Frame) → is_unlock f ≡ true ↔ Tells Unlock f
unlock_means f = three_means f _ _ _ _

pub commit_means : (f : Frame) → is_commit f ≡ true ↔ Tells Commit f
commit_means f = three_means f _ _ _ _

one_equal : (f : Frame) (n a : ℕ) → (eqb f.length n && eqb (byte f 0) a) ≡ true ↔ (f.length ≡ n) × (byte f 0 ≡ a)
one_equal f n a = both _ _ (equal f.length n) (equal (byte f 0) a)

pub answer_means : (f : Frame) → is_answer f ≡ true ↔ Tells Answer f
answer_means f = (
  λ t. let q = (one_equal f _ _).0 t in (q.0, rw q.1 refl),
  λ t. (one_equal f _ _).1 (t.0, ap (λ (l : List ℕ). get_or l 0 0) t.1),
)

pub serial_means : (f : Frame) → asks_serial f ≡ true ↔ (((f.length ≡ 1) ⊎ (f.length ≡ 3)) × (0x08 ≤ byte f 0)) × (byte f 0 ≤ 0x0B)
serial_means f = both _ _ (both _ _ (either _ _ (equal f.length _) (equal f.length _)) (at_most _ (byte f 0))) (at_most (byte f 0) _)

-- ---- in whatever order they are asked for

pub says_unlock : (f : Frame) → is_unlock f ≡ true → message f ≡ Unlock
unfolding message
says_unlock f h = rw h refl

pub says_commit : (f : Frame) → is_commit f ≡ true → message f ≡ Commit
unfolding message
says_commit f h = let q = (three_equal f _ _ _ _).0 h in rw (q.0.0.0, q.0.0.1, q.0.1, q.1) refl

pub says_answer : (f : Frame) → is_answer f ≡ true → message f ≡ Answer
unfolding message
says_answer f h = let q = (one_equal f _ _).0 h in rw (q.0, q.1) refl

-- what is at most a limit is not a number beyond it
apart_by : (short : Bool) (low high x n : ℕ) → (short && leb low x && leb x high) ≡ true → high < n → eqb x n ≡ false
apart_by short low high x n t l = ne_eqb x n (λ e. let h = leb-true x high (and_right (short && leb low x) (leb x high) t) in omega arith)

-- a serial request is no other by its first byte
pub serial_said : (f : Frame) → asks_serial f ≡ true → message f ≡ SerialRequest (word_asked (byte f 0))
unfolding message
serial_said f t =
    rw (t, apart_by _ _ _ (byte f 0) 0x14 t (lit< tt), and_false (eqb f.length 3), and_false (eqb f.length 8)) refl

pub read_said : (f : Frame) → asks_serial f ≡ false → eqb f.length 1 ≡ true → message f ≡ as_read (setting_of (byte f 0))
unfolding message
read_said f s one =
    let l = eqb-true f.length 1 one in
    let unlock : is_unlock f ≡ false = rw l refl in
    let commit : is_commit f ≡ false = rw l refl in
    let answer : is_answer f ≡ false = rw l refl in
    rw (unlock, commit, answer, s, one) refl

pub write_said : (f : Frame) → eqb f.length 5 ≡ true → message f ≡ as_write (setting_of (byte f 0)) (number_at f.bytes 1 4)
unfolding message
write_said f five = rw (eqb-true f.length 5 five) refl

pub other_said : (f : Frame) → is_unlock f ≡ false → is_commit f ≡ false → is_answer f ≡ false → asks_serial f ≡ false → eqb f.length 1 ≡ false → eqb f.length 5 ≡ false → message f ≡ Other
unfolding message
other_said f unlock commit answer serial one five = rw (unlock, commit, answer, serial, one, five) refl

-- ---- right answers

same_seven_lem : (a b c d e g h a' b' c' d' e' g' h' : ℕ) → same_seven (a ∷ b ∷ c ∷ d ∷ e ∷ g ∷ h ∷ []) (a' ∷ b' ∷ c' ∷ d' ∷ e' ∷ g' ∷ h' ∷ []) ≡ true → (a ∷ b ∷ c ∷ d ∷ e ∷ g ∷ h ∷ []) ≡ (a' ∷ b' ∷ c' ∷ d' ∷ e' ∷ g' ∷ h' ∷ [])
same_seven_lem a b c d e g h a' b' c' d' e' g' h' t =
    let q = (both _ _ (both _ _ (both _ _ (both _ _ (both _ _ (both _ _ (equal a a') (equal b b')) (equal c c')) (equal d d')) (equal e e')) (equal g g')) (equal h h')).0 t in
    rw (q.0.0.0.0.0.0, q.0.0.0.0.0.1, q.0.0.0.0.1, q.0.0.0.1, q.0.0.1, q.0.1, q.1) refl

itself : (n : ℕ) → eqb n n ≡ true
itself n = eq-eqb n n refl

seven_same : (xs ys : List ℕ) → xs ≡ ys → same_seven xs ys ≡ true
seven_same xs ys e =
    rw (e, itself (get_or ys 0 0), itself (get_or ys 1 0), itself (get_or ys 2 0), itself (get_or ys 3 0), itself (get_or ys 4 0), itself (get_or ys 5 0), itself (get_or ys 6 0)) refl

pub heard_means : HeardMeans
heard_means k f = both _ _ Iff.rfl (equal f.identifier k.receive)

pub right_means : RightMeans
right_means serial f = (
  same_seven_lem _ _ _ _ _ _ _ _ _ _ _ _ _ _,
  seven_same (part f.bytes 1 7) (right_bytes serial),
)
