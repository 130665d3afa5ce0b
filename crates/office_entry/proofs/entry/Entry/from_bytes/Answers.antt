use Rattle.std.proofs.Common.{◌≡◌, Option, Some, None, ℕ, List, length, ap, sym, ◌∙◌}
use Rattle.std.specs.Prelude.{IfSome}
use Rattle.office_entry.specs.declared.entry.Entry.{Entry}
use Rattle.office_entry.specs.EntryBytes.{IsInRange, entry_bytes}
use Rattle.office_entry.specs.EntryReading.{entry_from}
use Rattle.ali_base.proofs.FrontsAgain.{IsBytes}
use Rattle.office_entry.proofs.EntriesOfBytes.{entry_found, entry_again}
use Rattle.office_entry.proofs.entry.Entry.from_bytes.Goals as goal

found : (bytes : List ℕ) (o : Option Entry) → IsBytes bytes → length bytes ≡ 631 → o ≡ entry_from bytes → IfSome o (λ e. IsInRange e × (bytes ≡ entry_bytes e))
found bytes None fits len h = tt
found bytes (Some e) fits len h = entry_found bytes e fits len (sym h)

pub returns-clause-found : goal.returns-clause-found
returns-clause-found c = found c.args.bytes.now c.entry_from.result c.fits-bytes c.told-bytes c.entry_from.ensures

pub returns-clause-only : goal.returns-clause-only
returns-clause-only c entry lawful same = c.entry_from.ensures ∙ ap entry_from same ∙ entry_again entry lawful
