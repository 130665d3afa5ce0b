-- A text that is put piece by piece.
use Rattle.std.proofs.Common.{◌≡◌, ℕ, ◌+◌, ◌<◌, ◌≤◌, List, [], ◌++◌, append_assoc, append-nil, length, take, sym, ap, ◌∙◌, arith, subst, length-append, Option, Result, Ok, Err, OnOk}
use Rattle.std.specs.Result.{IsErr}
use Rattle.std.proofs.lemmas.List.{take-append-le}
use Rattle.std.proofs.Math.Seq.{take-append-add}
use Rattle.std.specs.Io.KnownBytes.{Appends}
use Rattle.std.proofs.KnownBytes.{Appends-trans, Appends-nil}
use Rattle.ali_base.specs.WholePuts.{AppendsPart, Puts}

-- a piece was put, and then a front of the next
part_after : (xs ys : List ℕ) (a b c : Option (List ℕ)) → Appends a b xs → AppendsPart b c ys → AppendsPart a c (xs ++ ys)
part_after xs ys a b c whole part =
    let n = part.0 in
    let fits : length xs + n < length (xs ++ ys) = omega (arith, length-append xs ys, part.1) in
    let both : Appends a c (xs ++ take n ys) = Appends-trans a b c xs (take n ys) whole part.2 in
    (length xs + n, fits, subst (Appends a c) (sym (take-append-add xs ys n)) both)

-- what was to be put after it does not matter
part_before : (xs ys : List ℕ) (a c : Option (List ℕ)) → AppendsPart a c xs → AppendsPart a c (xs ++ ys)
part_before xs ys a c part =
    let n = part.0 in
    let fits : n < length (xs ++ ys) = omega (arith, length-append xs ys, part.1) in
    let inside : n ≤ length xs = omega (arith, part.1) in
    (n, fits, subst (Appends a c) (sym (take-append-le n xs ys inside)) part.2)

then_next : {S T E U F : Type 0} (contents : S → Option (List ℕ)) (faults : S → ℕ) (a b c : S) (text x y : List ℕ) (done : T) (r : Result U F) → text ≡ x ++ y
    → Puts {E = E} contents faults a b x (Ok done) → Puts contents faults b c y r → Puts contents faults a c text r
then_next contents faults a b c text x y done (Ok value) is first next =
    record {
      whole = subst (Appends (contents a) (contents c)) (sym is) (Appends-trans (contents a) (contents b) (contents c) x y first.whole next.whole);
      part = tt;
      later = omega (arith, first.later, next.later);
      cause = tt;
    }
then_next contents faults a b c text x y done (Err fault) is first next =
    record {
      whole = tt;
      part = subst (AppendsPart (contents a) (contents c)) (sym is) (part_after x y (contents a) (contents b) (contents c) first.whole next.part);
      later = omega (arith, first.later, next.later);
      cause = omega (arith, first.later, next.cause);
    }

-- one piece was put, and then the rest as this result says
pub puts_then : {S T E U F : Type 0} {contents : S → Option (List ℕ)} {faults : S → ℕ} {a b c : S} {text x y : List ℕ} {done : T} {r : Result U F} → text ≡ x ++ y
    → Puts {E = E} contents faults a b x (Ok done) → Puts contents faults b c y r → Puts contents faults a c text r
puts_then {contents = contents} {faults = faults} {a = a} {b = b} {c = c} {text = text} {x = x} {y = y} {done = done} {r = r} is first next =
    then_next contents faults a b c text x y done r is first next

stop : {S T E U F : Type 0} (contents : S → Option (List ℕ)) (faults : S → ℕ) (a b : S) (text x y : List ℕ) (fault : E) (r : Result U F) → text ≡ x ++ y
    → Puts {T = T} contents faults a b x (Err fault) → IsErr r → Puts contents faults a b text r
stop contents faults a b text x y fault (Ok value) is first none = absurd (cc none)
stop contents faults a b text x y fault (Err other) is first none =
    record {
      whole = tt;
      part = subst (AppendsPart (contents a) (contents b)) (sym is) (part_before x y (contents a) (contents b) first.part);
      later = first.later;
      cause = first.cause;
    }

-- the putting stopped in the first piece, and so in any longer text
pub puts_stop : {S T E U F : Type 0} {contents : S → Option (List ℕ)} {faults : S → ℕ} {a b : S} {text x : List ℕ} {fault : E} {r : Result U F} (y : List ℕ) → text ≡ x ++ y
    → Puts {T = T} contents faults a b x (Err fault) → IsErr r → Puts contents faults a b text r
puts_stop {contents = contents} {faults = faults} {a = a} {b = b} {text = text} {x = x} {fault = fault} {r = r} y is first none = stop contents faults a b text x y fault r is first none

-- a loop of puts: a front of the text was put, and this is left of it
pub record PutsFront {S : Type 0} (contents : S → Option (List ℕ)) (faults : S → ℕ) (old new : S) (text left : List ℕ) : Type 0 where
  pub front : List ℕ
  pub split : text ≡ front ++ left
  pub put : Puts {T = Unit {0}} {E = Unit {0}} contents faults old new front (Ok tt)

-- before the first put
pub front_none : {S : Type 0} (contents : S → Option (List ℕ)) (faults : S → ℕ) (s : S) (text left : List ℕ) → text ≡ left → PutsFront contents faults s s text left
front_none contents faults s text left is =
    record { front = []; split = is; put = record { whole = Appends-nil (contents s); part = tt; later = omega arith; cause = tt } }

-- one piece more was put
pub front_more : {S T E : Type 0} {contents : S → Option (List ℕ)} {faults : S → ℕ} {a b c : S} {text left piece : List ℕ} {done : T} (rest : List ℕ)
    → PutsFront contents faults a b text left → left ≡ piece ++ rest → Puts {E = E} contents faults b c piece (Ok done) → PutsFront contents faults a c text rest
front_more {contents = contents} {faults = faults} {a = a} {b = b} {c = c} {text = text} {left = left} {piece = piece} {done = done} rest so_far is here =
    record {
      front = so_far.front ++ piece;
      split = so_far.split ∙ ap (λ z. so_far.front ++ z) is ∙ sym (append_assoc so_far.front piece rest);
      put = record {
        whole = Appends-trans (contents a) (contents b) (contents c) so_far.front piece so_far.put.whole here.whole;
        part = tt;
        later = omega (arith, so_far.put.later, here.later);
        cause = tt;
      };
    }

-- the putting stopped in the next piece
pub front_stop : {S T E U F : Type 0} {contents : S → Option (List ℕ)} {faults : S → ℕ} {a b c : S} {text left piece : List ℕ} {fault : E} {r : Result U F} (rest : List ℕ)
    → PutsFront contents faults a b text left → left ≡ piece ++ rest → Puts {T = T} contents faults b c piece (Err fault) → IsErr r → Puts contents faults a c text r
front_stop {contents = contents} {faults = faults} {a = a} {b = b} {c = c} {text = text} {left = left} {piece = piece} {fault = fault} {r = r} rest so_far is here none =
    then_next contents faults a b c text so_far.front left tt r so_far.split so_far.put (stop contents faults b c left piece rest fault r is here none)

-- nothing is left
pub front_all : {S T E : Type 0} {contents : S → Option (List ℕ)} {faults : S → ℕ} {a b : S} {text left : List ℕ} (done : T) → PutsFront contents faults a b text left → left ≡ [] → Puts {E = E} contents faults a b text (Ok done)
front_all {contents = contents} {faults = faults} {a = a} {b = b} {text = text} {left = left} done so_far none =
    let whole = so_far.split ∙ ap (λ z. so_far.front ++ z) none ∙ append-nil so_far.front in
    record { whole = subst (Appends (contents a) (contents b)) (sym whole) so_far.put.whole; part = tt; later = so_far.put.later; cause = tt }
