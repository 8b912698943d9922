-- A text that goes on in the same buffer.
use Rattle.std.specs.Prelude.{ℕ, ◌≡◌, List}
use Rattle.std.specs.Borrow.{MutBor}
use Rattle.text.specs.declared.Text.{Text}
use Rattle.text.specs.Put.{Put}

-- nothing is put yet, and the text is to go on at a place
pub record Begins (lent : MutBor (List ℕ)) (at : ℕ) (text : Text) : Type 0 where
  pub same : text.out.ghost_name ≡ lent.ghost_name
  pub place : text.at ≡ at
  pub holds : text.out.now ≡ lent.now

pub record Puts (before : Text) (put : List ℕ) (after : Text) : Type 0 where
  pub same : after.out.ghost_name ≡ before.out.ghost_name
  pub there : Put before.out.now before.at put after.at after.out.now
