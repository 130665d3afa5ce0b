use Rattle.std.proofs.Common.{◌≡◌, ◌++◌}
use Rattle.office_state.specs.Tallies.{count_in}
use Rattle.audit_reports.specs.CsvLines.{IsAtLine, written}
use Rattle.audit_reports.proofs.TallyLines.{codes_from}
use Rattle.audit_reports.proofs.statistics.write_codes.Given as goal

-- the lines of the codes that are left make the text whole
abbrev pub invariant-loop-code : goal.invariant-loop-code
invariant-loop-code l =
    record {
      ready : IsAtLine l.out;
      text : written l.out ++ codes_from (count_in l.tally) l.code l.limit ≡ written l.fn.out ++ codes_from (count_in l.tally) 0 l.limit;
    }
