-- A side that has records reads as these.
use Rattle.std.proofs.Common.{◌≡◌, ◌≢◌, ℕ, zero, suc, ◌+◌, ◌^◌, ◌≤◌, ◌<◌, ◌==◌, nat_lt, true, false, List, [], ◌∷◌, ◌++◌, length, take, drop, Option, Some, None, refl, sym, ◌∙◌, ap, arith, append_assoc, length-append}
use Rattle.std.specs.Bool.{if◌then◌else◌}
use Rattle.std.specs.Option.{option_map}
use Rattle.std.proofs.lemmas.List.{take_at, drop_at, drop-drop}
use Rattle.std.proofs.lemmas.Nat.{from_be_bytes-to_be_bytes_4}
use Rattle.std.proofs.lemmas.Bool.Decides.{nat_tests}
use Rattle.cg_codec.specs.Fields.{number32}
use Rattle.cg_journal.specs.Records.{header, number_at, spelled, AreShort, HasRecords, body_and, bodies_from, bodies_of}
use Rattle.cg_codec.specs.PlainLaws.{length-number32}

pub number_at-number32 : (n : ℕ) (more : List ℕ) → n < 2 ^ 32 → number_at (number32 n ++ more) ≡ n
unfolding number32 number_at
number_at-number32 n more short = from_be_bytes-to_be_bytes_4 n short

pub closed_gate : (gate : ℕ) → gate ≢ 1 → (gate == 1) ≡ false
closed_gate gate closed = grind (arith, nat_tests)

-- a body that fits
pub body_here : (size : ℕ) (front body more : List ℕ) (f : List ℕ → Option (List (List ℕ))) → length front ≡ 4 → size ≡ length body → 1 ≤ length more → body_and size (front ++ (body ++ more)) f ≡ option_map (λ bodies. body ∷ bodies) (f more)
body_here size front body more f four is gate =
    let fits : nat_lt (4 + size) (length (front ++ (body ++ more))) ≡ true = grind (arith, nat_tests, length-append front (body ++ more), length-append body more) in
    let here : take size (drop 4 (front ++ (body ++ more))) ≡ body = ap (take size) (drop_at front (body ++ more) 4 four) ∙ take_at body more size (sym is) in
    let behind : drop (4 + size) (front ++ (body ++ more)) ≡ more = sym (drop-drop size 4 (front ++ (body ++ more))) ∙ ap (drop size) (drop_at front (body ++ more) 4 four) ∙ drop_at body more size (sym is) in
    λ i. if fits i then option_map (λ bodies. here i ∷ bodies) (f (behind i)) else None

read : (fuel : ℕ) (bodies : List (List ℕ)) (gate : ℕ) (rest : List ℕ) → gate ≢ 1 → AreShort bodies → length bodies < fuel → bodies_from fuel (spelled bodies ++ gate ∷ rest) ≡ Some bodies
read zero bodies gate rest closed short enough = absurd (omega arith)
read (suc fuel) [] gate rest closed short enough = λ i. if closed_gate gate closed i then body_and (number_at rest) rest (bodies_from fuel) else Some []
read (suc fuel) (body ∷ bodies) gate rest closed short enough =
    let more = spelled bodies ++ gate ∷ rest in
    let front = number32 (length body) in
    let tail : front ++ body ++ spelled bodies ++ gate ∷ rest ≡ front ++ (body ++ (spelled bodies ++ gate ∷ rest)) = append_assoc (front ++ body) (spelled bodies) (gate ∷ rest) ∙ append_assoc front body (spelled bodies ++ gate ∷ rest) in
    let size : number_at (front ++ (body ++ (spelled bodies ++ gate ∷ rest))) ≡ length body = number_at-number32 (length body) (body ++ (spelled bodies ++ gate ∷ rest)) short.0 in
    ap (λ (l : List ℕ). body_and (number_at l) l (bodies_from fuel)) tail
    ∙ body_here (number_at (front ++ (body ++ (spelled bodies ++ gate ∷ rest)))) front body (spelled bodies ++ gate ∷ rest) (bodies_from fuel) (length-number32 (length body)) size (omega (arith, length-append (spelled bodies) (gate ∷ rest)))
    ∙ ap (option_map (λ bodies. body ∷ bodies)) (read fuel bodies gate rest closed short.1 (omega arith))

-- each record takes some bytes
pub count_le : (bodies : List (List ℕ)) → length bodies ≤ length (spelled bodies)
count_le [] = omega arith
count_le (body ∷ bodies) = omega (arith, count_le bodies, length-append (number32 (length body) ++ body) (spelled bodies))

pub from_header : (tail : List ℕ) → bodies_of (header ++ tail) ≡ bodies_from (length (header ++ tail)) tail
unfolding bodies_of
from_header tail = refl

pub reads_as : (side : List ℕ) (end : ℕ) (bodies : List (List ℕ)) → HasRecords side end bodies → bodies_of side ≡ Some bodies
reads_as side end bodies has =
    ap bodies_of has.spelled_out
    ∙ from_header (spelled bodies ++ has.gate ∷ has.rest)
    ∙ read (length (header ++ (spelled bodies ++ has.gate ∷ has.rest))) bodies has.gate has.rest has.closed has.short (omega (arith, count_le bodies, length-append header (spelled bodies ++ has.gate ∷ has.rest), length-append (spelled bodies) (has.gate ∷ has.rest)))
