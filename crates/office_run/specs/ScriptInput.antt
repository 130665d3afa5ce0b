-- What is taken of a source that holds a script.
use Rattle.std.specs.Prelude.{◌≡◌, ℕ, ◌+◌, ◌≤◌, List, length, Option}
use Rattle.std.specs.Io.KnownBytes.{Consumes, IsAtEnd}
use Rattle.office_run.specs.declared.input.TheConstants.{SCRIPT_LIMIT}

-- these bytes were all that the source had left
pub record TookAll (left left' : Option (List ℕ)) (bytes : List ℕ) : Type 0 where
  pub taken : Consumes left left' bytes
  pub ended : IsAtEnd left'
  pub within : length bytes ≤ SCRIPT_LIMIT

-- the source stopped after these bytes, which are within the limit
pub record TookPart (left left' : Option (List ℕ)) : Type 0 where
  pub bytes : List ℕ
  pub taken : Consumes left left' bytes
  pub within : length bytes ≤ SCRIPT_LIMIT

-- at most one byte more than the limit was taken
pub record TookSome (left left' : Option (List ℕ)) : Type 0 where
  pub bytes : List ℕ
  pub taken : Consumes left left' bytes
  pub within : length bytes ≤ SCRIPT_LIMIT + 1

-- one byte more than the limit was taken, and no byte after it
pub record TookTooMany (left left' : Option (List ℕ)) : Type 0 where
  pub bytes : List ℕ
  pub taken : Consumes left left' bytes
  pub over : length bytes ≡ SCRIPT_LIMIT + 1
