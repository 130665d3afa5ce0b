-- The functions of records, by their letters.
use Rattle.std.specs.Prelude.{ℕ, ◌==◌, if◌then◌else◌}
use Rattle.ali_record.specs.declared.function.Function.{Function}
use Rattle.ali_record.specs.declared.function.Function.TheVariants.{Insert, Change, Delete, Unlock, Migrate}

-- the function of the letter I, C, D, U or M; a record has one of these
abbrev pub function_of : ℕ → Function
function_of byte =
    if byte == 73 then Insert else
    (if byte == 67 then Change else
    (if byte == 68 then Delete else
    (if byte == 85 then Unlock else Migrate)))
