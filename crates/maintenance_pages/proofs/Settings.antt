-- Settings: which values are legal and which settings accepted, in plain words, and what follows. Assumes nothing.
use Prim.Native.Nat.{ℕ, ◌<◌, ◌≤◌}
use mathlib.Core.Path.{◌≡◌, refl, sym, ap, ◌∙◌}
use mathlib.Core.Bool.{Bool, true, false, cond}
use mathlib.Core.Logic.{inl, inr}
use lib.Dec.{eqb, lit<}
use borrow.Author.Tests.{eq-eqb, ne_eqb}
use native.Mathlib.Omega.{arith}
use Rattle.words.proofs.Tests.{at_most, below, equal, both, either, refuted}
use Rattle.maintenance_pages.specs.declared.setting.Setting.{Setting}
use Rattle.maintenance_pages.specs.declared.setting.Setting.TheVariants.{ReceiveId, TransmitId, Speed, Voltage, WarningLevel, FaultLevel}
use Rattle.std.specs.Prelude.{Option, Some, None}
use Rattle.maintenance_pages.specs.declared.setting.Settings.{Settings}
use Rattle.maintenance_pages.specs.Settings.{code, setting_of, legal, value_of, with_value}
use Rattle.maintenance_pages.specs.Means.{Legal}
use Rattle.maintenance_pages.specs.Promise.{EachSetting, LegalMeans, AcceptedMeans, EqualAccepted, NegativeRefused, SpeedsShown}

-- ---- in plain words

pub legal_means : LegalMeans
legal_means rating ReceiveId v = at_most v _
legal_means rating TransmitId v = at_most v _
legal_means rating Speed v = either _ _ (equal v _) (equal v _)
legal_means rating Voltage v = both _ _ (at_most _ v) (below v rating)
legal_means rating WarningLevel v = both _ _ (at_most _ v) (at_most v _)
legal_means rating FaultLevel v = both _ _ (at_most _ v) (at_most v _)

pub accepted_means : AcceptedMeans
accepted_means rating k =
    let l = legal_means rating in
    let all = both _ _ (both _ _ (both _ _ (both _ _ (both _ _ (both _ _ (at_most _ rating) (l ReceiveId k.receive)) (l TransmitId k.transmit)) (l Speed k.speed)) (below k.voltage rating)) (l WarningLevel k.warning)) (l FaultLevel k.fault) in (
      λ t.
          let a = all.0 t in
          record {
            rated = a.0.0.0.0.0.0;
            receive = a.0.0.0.0.0.1;
            transmit = a.0.0.0.0.1;
            speed = a.0.0.0.1;
            voltage = a.0.0.1;
            warning = a.0.1;
            fault = a.1;
          },
      λ a. all.1 ((((((a.rated, a.receive), a.transmit), a.speed), a.voltage), a.warning), a.fault),
    )

-- ---- a code is one setting's

pub known_code : (s : Setting) → setting_of (code s) ≡ Some s
known_code ReceiveId = refl
known_code TransmitId = refl
known_code Speed = refl
known_code Voltage = refl
known_code WarningLevel = refl
known_code FaultLevel = refl

abbrev named : Option Setting → Setting
named None = ReceiveId
named (Some s) = s

pub same_code : (k s : Setting) → code k ≡ code s → k ≡ s
same_code k s q = ap named (sym (known_code k)) ∙ (ap (λ (c : ℕ). named (setting_of c)) q ∙ ap named (known_code s))

-- ---- one setting of the six

-- a value where the code is the setting's, and what was there at every other
abbrev with_code : Settings → ℕ → ℕ → Settings
with_code k c v =
    record {
      receive = cond (eqb c (code ReceiveId)) v k.receive;
      transmit = cond (eqb c (code TransmitId)) v k.transmit;
      speed = cond (eqb c (code Speed)) v k.speed;
      voltage = cond (eqb c (code Voltage)) v k.voltage;
      warning = cond (eqb c (code WarningLevel)) v k.warning;
      fault = cond (eqb c (code FaultLevel)) v k.fault;
    }

by_code : (k : Settings) (s : Setting) (v : ℕ) → with_value k s v ≡ with_code k (code s) v
by_code k ReceiveId v = refl
by_code k TransmitId v = refl
by_code k Speed v = refl
by_code k Voltage v = refl
by_code k WarningLevel v = refl
by_code k FaultLevel v = refl

value_by_lem : (k : Settings) (c v : ℕ) (x : Setting) → value_of (with_code k c v) x ≡ cond (eqb c (code x)) v (value_of k x)
value_by_lem k c v ReceiveId = refl
value_by_lem k c v TransmitId = refl
value_by_lem k c v Speed = refl
value_by_lem k c v Voltage = refl
value_by_lem k c v WarningLevel = refl
value_by_lem k c v FaultLevel = refl

value_with : (k : Settings) (s x : Setting) (v : ℕ) → value_of (with_value k s v) x ≡ cond (eqb (code s) (code x)) v (value_of k x)
value_with k s x v = ap (λ (n : Settings). value_of n x) (by_code k s v) ∙ value_by_lem k (code s) v x

pub values : (k : Settings) → EachSetting k
values k =
    record {
      receive = refl;
      transmit = refl;
      speed = refl;
      voltage = refl;
      warning = refl;
      fault = refl;
      written = λ s v. value_with k s s v ∙ rw (eq-eqb (code s) (code s) refl) refl;
      others = λ s x v n. value_with k s x v ∙ rw (ne_eqb (code s) (code x) (λ e. n (same_code s x e))) refl;
    }

-- ---- what follows

pub equal_accepted : EqualAccepted
equal_accepted rating k t =
    let a = (accepted_means rating k).0 t in
    (accepted_means rating (with_value k TransmitId k.receive)).1
    (record { rated = a.rated; receive = a.receive; transmit = a.receive; speed = a.speed; voltage = a.voltage; warning = a.warning; fault = a.fault })

not_negative : (rating : ℕ) (s : Setting) (v : ℕ) → rating ≤ 65535 → 2147483648 ≤ v → Legal rating s v → ⊥
not_negative rating ReceiveId v r h l = omega arith
not_negative rating TransmitId v r h l = omega arith
not_negative rating Speed v r h (inl e) = omega arith
not_negative rating Speed v r h (inr e) = omega arith
not_negative rating Voltage v r h l = let q = l.1 in omega arith
not_negative rating WarningLevel v r h l = let q = l.1 in omega arith
not_negative rating FaultLevel v r h l = let q = l.1 in omega arith

pub negative : NegativeRefused
negative rating s v r h = refuted (legal rating s v) (legal_means rating s v) (not_negative rating s v r h)

either_below : (b : Bool) (x y n : ℕ) → x < n → y < n → cond b x y < n
either_below true x y n p q = p
either_below false x y n p q = q

pub speeds : SpeedsShown
speeds = record { slow = refl; fast = refl; figures = λ v. either_below (eqb v 0x00CA0250) _ _ 1000 (lit< tt) (lit< tt) }
