-- The life of a number, and the lock of its company: what each function does to a number, by how the number stands.
use Rattle.std.specs.Prelude.{ℕ, List, Option, Some, None, Result, Ok, Err, if◌then◌else◌}
use Rattle.std.specs.Option.{option_map_or}
use Rattle.std.specs.Str.{bytes_eq}
use Rattle.ali_base.specs.CivilDay.{CivilDay, day_of}
use Rattle.ali_record.specs.Layout.{field_of, byte_of}
use Rattle.ali_record.specs.Functions.{function_of}
use Rattle.ali_record.specs.declared.field.Field.TheVariants as field
use Rattle.ali_record.specs.declared.function.Function.{Function}
use Rattle.ali_record.specs.declared.function.Function.TheVariants.{Insert, Change, Delete, Unlock, Migrate}
use Rattle.number_life.specs.declared.act.LifeAct.{LifeAct}
use Rattle.number_life.specs.declared.act.LifeAct.TheVariants as act
use Rattle.number_life.specs.declared.number_standing.NumberStanding.{NumberStanding}
use Rattle.number_life.specs.declared.number_standing.NumberStanding.TheVariants.{Absent, OwnLocked, OwnUnlocked, OthersLocked, OthersUnlocked}
use Rattle.number_life.specs.declared.row.Row.{Row}

-- a row is locked until it has a day of unlocking
abbrev pub own : Option CivilDay → NumberStanding
own None = OwnLocked
own (Some day) = OwnUnlocked

abbrev pub others : Option CivilDay → NumberStanding
others None = OthersLocked
others (Some day) = OthersUnlocked

-- the owner of a row is the company of its record
abbrev pub owner : Row → List ℕ
owner row = field_of row.rec field.Company

-- how a number that has this row or none stands for a company
abbrev pub number_standing : Option Row → List ℕ → NumberStanding
number_standing None company = Absent
number_standing (Some row) company = if bytes_eq (owner row) company then own row.unlocked else others row.unlocked

-- the table: the act, or the code of the refusal; day is the extract date of the record
abbrev pub life : Function → NumberStanding → CivilDay → Result LifeAct ℕ
life Insert Absent day = Ok act.Store
life Insert OwnLocked day = Err 301
life Insert OwnUnlocked day = Err 301
life Insert OthersLocked day = Err 302
life Insert OthersUnlocked day = Err 302
life Change Absent day = Err 303
life Change OwnLocked day = Ok act.Store
life Change OwnUnlocked day = Err 313
life Change OthersLocked day = Err 304
life Change OthersUnlocked day = Err 304
life Delete Absent day = Err 305
life Delete OwnLocked day = Ok act.Remove
life Delete OwnUnlocked day = Err 313
life Delete OthersLocked day = Err 306
life Delete OthersUnlocked day = Err 306
life Unlock Absent day = Err 307
life Unlock OwnLocked day = Ok (act.Unlock day)
life Unlock OwnUnlocked day = Err 309
life Unlock OthersLocked day = Err 308
life Unlock OthersUnlocked day = Err 308
life Migrate Absent day = Err 310
life Migrate OwnLocked day = Ok act.Store
life Migrate OwnUnlocked day = Ok act.Store
life Migrate OthersLocked day = Err 311
life Migrate OthersUnlocked day = Ok act.Store

-- what a record does to its number, which has this row or none; a record without an extract date does nothing
unfoldable pub life_of : Option Row → List ℕ → Result LifeAct ℕ
life_of row bytes =
    option_map_or (λ day. life (function_of (byte_of bytes field.Function)) (number_standing row (field_of bytes field.Company)) day) (day_of (field_of bytes field.ExtractDate)) (Err 107)
