-- Blocks, but for their last byte.
use Rattle.std.proofs.Common.{◌≡◌, ℕ, ◌+◌, ◌-◌, List, length, replicate, arith, length-append}
use Rattle.std.proofs.lemmas.List.{length-replicate, take_at}
use Rattle.ali_base.specs.Fronts.{zero_filled}
use Rattle.commit_log.specs.LogState.{body_of}

-- fields that leave room for one byte are the body of their block
pub body_of-filled : (width : ℕ) (fields : List ℕ) → length fields + 1 ≡ width → body_of (zero_filled width fields) ≡ fields
body_of-filled width fields len =
    let size : length (zero_filled width fields) ≡ width = omega (arith, len, length-append fields (replicate (width - length fields) 0), length-replicate {A = ℕ} (width - length fields) 0) in
    take_at fields (replicate (width - length fields) 0) (length (zero_filled width fields) - 1) (omega (arith, len, size))
