-- What the standing of a company's file says of its kept cycles.
use Rattle.std.proofs.Common.{◌≡◌, ℕ, ◌+◌, ◌≤◌, ◌==◌, ◌&&◌, Bool, true, false, List, length, Option, Some, None, Result, Ok, Err, refl, ap, arith, if◌then◌else◌, option_map, sym, ◌∙◌}
use Rattle.std.specs.Str.{bytes_eq}
use Rattle.std.proofs.lemmas.Slice.Eq.{bytes_eq-Decides}
use Rattle.std.proofs.lemmas.Bool.Decides.{nat_tests}
use Rattle.std.proofs.lemmas.List.Elements.{All-filter}
use Rattle.sequence_once.specs.KeptCycles.{CycleRecord, CyclesState, IsSound, of_company, last_of, is_finished, is_last_finished, codes_of, count_of}
use Rattle.sequence_once.specs.CycleStanding.{last_number, is_next, is_beyond, is_full, repeated, earlier, standing_of}
use Rattle.sequence_once.specs.declared.standing.Standing.{Standing}
use Rattle.sequence_once.specs.declared.standing.Standing.TheVariants.{New, Resume, Complete}
use Rattle.sequence_once.specs.declared.standing.CycleFault.{CycleFault}
use Rattle.sequence_once.specs.declared.standing.CycleFault.TheVariants.{Gap, Differs, CompaniesFull}
use Rattle.sequence_once.proofs.CycleRuns.{found, found_newest, newest_holds}
use Rattle.sequence_once.proofs.Runs.{HasRoom}
use Rattle.sequence_once.proofs.Sound.{new_means}
use Rattle.sequence_once.proofs.TooOldFiles.{not_above_last, not_next, not_beyond}

next_means : (cycle last : ℕ) (finished : Bool) → ((cycle == last + 1) && finished) ≡ true → (cycle ≡ last + 1) × (finished ≡ true)
next_means cycle last true e = (grind (arith, nat_tests), refl)
next_means cycle last false e = (grind (arith, nat_tests), grind (arith, nat_tests))

-- a new cycle is the one after the last, which is finished
pub opening_means : (s : CyclesState) (c : List ℕ) (cycle : ℕ) (digest : List ℕ) → standing_of s c cycle digest ≡ Ok New → (cycle ≡ last_number (last_of c s.kept) + 1) × (is_last_finished (last_of c s.kept) ≡ true)
opening_means s c cycle digest new = next_means cycle (last_number (last_of c s.kept)) (is_last_finished (last_of c s.kept)) (new_means s c cycle digest new).0

-- a standing other than new passes the tests for the next cycle and for those beyond it
kept_only : (next full beyond : Bool) (l g : ℕ) (rest : Result Standing CycleFault) (r : Standing) → (New ≡ r → ⊥) → (if next then (if full then Err (CompaniesFull l) else Ok New) else (if beyond then Err (Gap g) else rest)) ≡ Ok r → (next ≡ false) × (beyond ≡ false) × (rest ≡ Ok r)
kept_only true true beyond l g rest r old e = cc
kept_only true false beyond l g rest r old e = absurd (old cc)
kept_only false full true l g rest r old e = cc
kept_only false full false l g rest r old e = (refl, refl, e)

-- the kept cycle of a file that is not new
pub record KeptFile (s : CyclesState) (company : List ℕ) (cycle : ℕ) (digest : List ℕ) (r : Standing) : Type 0 where
  pub kept : CycleRecord
  pub there : found cycle (of_company company s.kept) ≡ Some kept
  pub low : cycle ≤ last_number (last_of company s.kept)
  pub stands : repeated kept digest ≡ Ok r

kept_there : (s : CyclesState) (company : List ℕ) (cycle : ℕ) (digest : List ℕ) (r : Standing) (o : Option CycleRecord) (oldest : ℕ) → found cycle (of_company company s.kept) ≡ o → cycle ≤ last_number (last_of company s.kept) → earlier o oldest digest ≡ Ok r → KeptFile s company cycle digest r
kept_there s company cycle digest r None oldest e low stands = cc
kept_there s company cycle digest r (Some k) oldest e low stands = record { kept = k; there = e; low = low; stands = stands }

-- a file that has a standing other than new has its cycle kept
pub kept_file : (s : CyclesState) (company : List ℕ) (cycle : ℕ) (digest : List ℕ) (r : Standing) → (New ≡ r → ⊥) → standing_of s company cycle digest ≡ Ok r → KeptFile s company cycle digest r
unfolding standing_of
kept_file s company cycle digest r old e =
    let last = last_of company s.kept in
    let facts = kept_only (is_next last cycle) (is_full s company) (is_beyond last cycle) _ _ _ r old e in
    kept_there s company cycle digest r (found cycle (of_company company s.kept)) _ refl (not_above_last cycle (last_number last) (is_last_finished last) facts.0 facts.1) facts.2

-- the digest is the kept one, and the cycle is finished
finished_means : (same done : Bool) (n : ℕ) (kept sent : List ℕ) → (if same then (if done then Ok Complete else Ok (Resume n)) else Err (Differs kept sent)) ≡ Ok Complete → (same ≡ true) × (done ≡ true)
finished_means true true n kept sent e = (refl, refl)
finished_means true false n kept sent e = cc
finished_means false done n kept sent e = cc

-- the cycle of a complete file is finished
pub kept_finished : (k : CycleRecord) (digest : List ℕ) → repeated k digest ≡ Ok Complete → is_finished k ≡ true
kept_finished k digest e = (finished_means (bytes_eq k.digest digest) (is_finished k) (length k.codes + 1) k.digest digest e).1

-- or unfinished, and the line is the next
pub resumed_means : (same done : Bool) (n line : ℕ) (kept sent : List ℕ) → (if same then (if done then Ok Complete else Ok (Resume n)) else Err (Differs kept sent)) ≡ Ok (Resume line) → (same ≡ true) × (done ≡ false) × (n ≡ line)
resumed_means true true n line kept sent e = cc
resumed_means true false n line kept sent e = (refl, refl, cc)
resumed_means false done n line kept sent e = cc

pub repeats : (k : CycleRecord) (digest : List ℕ) → k.digest ≡ digest → repeated k digest ≡ (if is_finished k then Ok Complete else Ok (Resume (length k.codes + 1)))
repeats k digest same =
    let yes : bytes_eq k.digest digest ≡ true = (bytes_eq-Decides k.digest digest).1 same in
    rw yes refl

-- a file whose cycle is kept, and not above the last, stands as that cycle says
pub standing_of_found : (s : CyclesState) (company : List ℕ) (cycle : ℕ) (k : CycleRecord) (digest : List ℕ) → found cycle (of_company company s.kept) ≡ Some k → cycle ≤ last_number (last_of company s.kept)
    → standing_of s company cycle digest ≡ repeated k digest
unfolding standing_of
standing_of_found s company cycle k digest there low =
    let last = last_of company s.kept in
    let next : is_next last cycle ≡ false = not_next cycle (last_number last) (is_last_finished last) low in
    let beyond : is_beyond last cycle ≡ false = not_beyond cycle (last_number last) (is_last_finished last) low in
    rw (next, beyond, there) refl

-- the company's last cycle, by its number
module _ (s : CyclesState) (sound : IsSound s) (company : List ℕ) (k : CycleRecord) (last : last_of company s.kept ≡ Some k) where
  last_found : found k.cycle (of_company company s.kept) ≡ Some k
  last_found = found_newest (of_company company s.kept) k (sound.runs company) last

  pub count_of_last : count_of company k.cycle s.kept ≡ Some k.count
  count_of_last = ap (option_map (λ (j : CycleRecord). j.count)) last_found

  pub standing_of_last : (digest : List ℕ) → standing_of s company k.cycle digest ≡ repeated k digest
  standing_of_last digest = standing_of_found s company k.cycle k digest last_found (rw last (omega arith))

  pub room_of_last : length k.codes ≤ k.count
  room_of_last = newest_holds HasRoom (of_company company s.kept) k (All-filter _ HasRoom s.kept sound.counts) last

-- the codes of a finished cycle are as many as its lines
pub complete_codes : (s : CyclesState) (company : List ℕ) (cycle : ℕ) (digest : List ℕ) → standing_of s company cycle digest ≡ Ok Complete → (count : ℕ) → count_of company cycle s.kept ≡ Some count → (codes : List ℕ) × (codes_of company cycle s.kept ≡ Some codes) × (length codes ≡ count)
complete_codes s company cycle digest e count has =
    let file = kept_file s company cycle digest Complete (λ h. cc) e in
    let k = file.kept in
    let done : (length k.codes == k.count) ≡ true = kept_finished k digest file.stands in
    let counted : count_of company cycle s.kept ≡ Some k.count = ap (option_map (λ (j : CycleRecord). j.count)) file.there in
    let lines : Some k.count ≡ Some count = sym counted ∙ has in
    let full : length k.codes ≡ k.count = grind (arith, nat_tests) in
    (k.codes, ap (option_map (λ (j : CycleRecord). j.codes)) file.there, full ∙ cc)
