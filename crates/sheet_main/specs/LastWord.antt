-- The last word of `sheet`: complete only of a sheet, refused only of bytes that are none.
use Rattle.std.specs.Prelude.{ℕ, List}
use Rattle.door.specs.declared.LastWord.{LastWord}
use Rattle.door.specs.declared.LastWord.TheVariants.{Complete, Refused, Unread, Cut}
use Rattle.maintenance_pages.specs.declared.setting.Settings.{Settings}
use Rattle.sheet.specs.Sheet.{IsSheet}

pub record SomeSheet (s : List ℕ) : Type 0 where
  pub settings : Settings
  pub sheet : IsSheet s settings

abbrev pub SaidOfSheet : List ℕ → LastWord → Type 0
SaidOfSheet s Complete = SomeSheet s
SaidOfSheet s Refused = (k : Settings) → IsSheet s k → ⊥
SaidOfSheet s Unread = ⊥
SaidOfSheet s Cut = Unit {0}
