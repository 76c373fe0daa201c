-- What is known of the method that owns an instruction. These definitions follow the code.
use Rattle.std.specs.Prelude.{ℕ, List}
use Rattle.table.specs.Table.{row, offset_of, end_of, owner_of}
use Rattle.check_instructions.specs.declared.owner.Owner.{Owner}

unfoldable pub owner_in : List ℕ → ℕ → Owner
owner_in p m = record { method = m; row = row p m; start = offset_of p m; end = end_of p m }

abbrev pub owner_at : List ℕ → ℕ → Owner
owner_at p i = owner_in p (owner_of p i)
