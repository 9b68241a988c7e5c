-- What a function that is handed an assignment leaves of it whatever it does.
use Rattle.std.specs.Prelude.{◌≡◌}
use Rattle.assignment.specs.declared.Assignment.{Assignment}

-- The marks and the tape are still the slices that were lent.
pub record Same (a a' : Assignment) : Type 0 where
  pub marks : a'.marks.ghost_name ≡ a.marks.ghost_name
  pub tape : a'.tape.ghost_name ≡ a.tape.ghost_name
