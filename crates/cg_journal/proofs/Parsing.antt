-- A side read from its front.
use Rattle.std.proofs.Common.{◌≡◌, ◌≢◌, ⊎_elim, ℕ, zero, suc, ◌+◌, ◌^◌, ◌≤◌, ◌<◌, nat_lt, Bool, true, false, List, [], ◌∷◌, ◌++◌, length, get_or, take, drop, None, refl, sym, ◌∙◌, ap, subst, arith, append_assoc, length-append, length-drop, take-append-drop}
use Rattle.std.specs.Bool.{if◌then◌else◌}
use Rattle.std.specs.Option.{option_map}
use Rattle.std.specs.Int.{from_be_bytes, w32}
use Rattle.std.specs.Str.{bytes_eq}
use Rattle.std.proofs.lemmas.List.{drop-drop, drop_more, length-take-le, get_or-take, get_or-drop, get_or_past, drop_all}
use Rattle.std.proofs.lemmas.Nat.{be_bytes_4}
use Rattle.std.proofs.lemmas.Bool.{cases_lt}
use Rattle.std.proofs.lemmas.Bool.Decides.{nat_tests}
use Rattle.cg_codec.specs.Fields.{number32}
use Rattle.cg_journal.specs.Records.{header, number_at, spelled, AreShort, HasRecords, body_and, bodies_from, bodies_of}
use Rattle.cg_journal.proofs.Reading.{body_here, number_at-number32, from_header}
use Rattle.cg_journal.proofs.Adding.{spelled-push, short-push}
use Rattle.cg_codec.specs.PlainLaws.{length-number32}

-- the number that four bytes spell
pub four_bytes : (bytes : List ℕ) → 4 ≤ length bytes → from_be_bytes w32 (get_or bytes 0 0 ∷ get_or bytes 1 0 ∷ get_or bytes 2 0 ∷ get_or bytes 3 0 ∷ []) ≡ number_at bytes
unfolding number_at
four_bytes [] long = absurd (omega arith)
four_bytes (a ∷ []) long = absurd (omega arith)
four_bytes (a ∷ b ∷ []) long = absurd (omega arith)
four_bytes (a ∷ b ∷ c ∷ []) long = absurd (omega arith)
four_bytes (a ∷ b ∷ c ∷ d ∷ more) long = refl

number32-number_at : (bytes : List ℕ) (n : ℕ) → 4 ≤ length bytes → ((i : ℕ) → get_or bytes i 0 < 256) → n ≡ number_at bytes → number32 n ≡ take 4 bytes
unfolding number32 number_at
number32-number_at bytes n long small is = be_bytes_4 (take 4 bytes) n (length-take-le 4 bytes long) each is
  where
    each : (i : ℕ) → get_or (take 4 bytes) i 0 < 256
    each i = ⊎_elim
        (λ inside. subst (λ n. n < 256) (sym (get_or-take 4 bytes i 0 inside)) (small i))
        (λ past. let none : get_or (take 4 bytes) i 0 ≡ 0 = get_or_past (take 4 bytes) i 0 (omega (arith, past, length-take-le 4 bytes long)) in omega (arith, none))
        (cases_lt i 4)

nothing_from : (fuel : ℕ) → bodies_from fuel [] ≡ None
nothing_from zero = refl
nothing_from (suc fuel) = refl

pub too_short : (side : List ℕ) → length side < 9 → bodies_of side ≡ None
unfolding bodies_of
too_short side short = by_test (bytes_eq (take 8 side) header)
  where
    by_test : (test : Bool) → (if test then bodies_from (length side) (drop 8 side) else None) ≡ None
    by_test true = ap (bodies_from (length side)) (drop_all 8 side (omega arith)) ∙ nothing_from (length side)
    by_test false = refl

pub other_header : (side : List ℕ) → bytes_eq (take 8 side) header ≡ false → bodies_of side ≡ None
unfolding bodies_of
other_header side differs = λ i. if differs i then bodies_from (length side) (drop 8 side) else None

-- records, and then one that doesn't fit
unfit_from : (fuel : ℕ) (bodies : List (List ℕ)) (tail : List ℕ) → 1 ≤ length tail → ((f : ℕ) → bodies_from f tail ≡ None) → AreShort bodies → bodies_from fuel (spelled bodies ++ tail) ≡ None
unfit_from fuel [] tail some none short = none fuel
unfit_from zero (body ∷ bodies) tail some none short = refl
unfit_from (suc fuel) (body ∷ bodies) tail some none short =
    let front = number32 (length body) in
    let whole : front ++ body ++ spelled bodies ++ tail ≡ front ++ (body ++ (spelled bodies ++ tail)) = append_assoc (front ++ body) (spelled bodies) tail ∙ append_assoc front body (spelled bodies ++ tail) in
    ap (λ (l : List ℕ). body_and (number_at l) l (bodies_from fuel)) whole
    ∙ body_here (number_at (front ++ (body ++ (spelled bodies ++ tail)))) front body (spelled bodies ++ tail) (bodies_from fuel) (length-number32 (length body)) (number_at-number32 (length body) (body ++ (spelled bodies ++ tail)) short.0) (omega (arith, length-append (spelled bodies) tail))
    ∙ ap (option_map (λ bs. body ∷ bs)) (unfit_from fuel bodies tail some none short.1)

length-spelled-push : (bodies : List (List ℕ)) (body : List ℕ) → length (spelled (bodies ++ body ∷ [])) ≡ length (spelled bodies) + 5 + length body
length-spelled-push [] body = omega (arith, length-append (number32 (length body) ++ body) [], length-append (number32 (length body)) body, length-number32 (length body))
length-spelled-push (b ∷ bodies) body = omega (arith, length-append (number32 (length b) ++ b) (spelled (bodies ++ body ∷ [])), length-append (number32 (length b) ++ b) (spelled bodies), length-spelled-push bodies body)

-- a side that was read up to a gate
pub record IsReadTo (side : List ℕ) (gate : ℕ) (bodies : List (List ℕ)) : Type 0 where
  pub spelled_out : side ≡ header ++ (spelled bodies ++ drop gate side)
  pub at : gate ≡ 8 + length (spelled bodies)
  pub inside : gate < length side
  pub short : AreShort bodies

module _ (side : List ℕ) where
  -- at the first gate
  pub read_none : 9 ≤ length side → take 8 side ≡ header → IsReadTo side 8 []
  read_none long front = record {
    spelled_out = sym (take-append-drop 8 side) ∙ ap (λ (l : List ℕ). l ++ drop 8 side) front;
    at = refl;
    inside = omega arith;
    short = tt;
  }

  module _ (gate : ℕ) (bodies : List (List ℕ)) (read : IsReadTo side gate bodies) where
    -- the gate and what stands behind it
    behind : drop gate side ≡ get_or side gate 0 ∷ drop (gate + 1) side
    behind = drop_more side gate 0 read.inside

    -- a closed gate ends the records
    pub read_all : get_or side gate 0 ≢ 1 → HasRecords side (gate + 1) bodies
    read_all closed = record {
      gate = get_or side gate 0;
      rest = drop (gate + 1) side;
      spelled_out = read.spelled_out ∙ ap (λ (l : List ℕ). header ++ (spelled bodies ++ l)) behind;
      closed = closed;
      short = read.short;
      ends = omega (arith, read.at);
    }

    module _ (is_open : get_or side gate 0 ≡ 1) where
      rest : List ℕ
      rest = drop (gate + 1) side

      opened : side ≡ header ++ (spelled bodies ++ 1 ∷ drop (gate + 1) side)
      opened = read.spelled_out ∙ ap (λ (l : List ℕ). header ++ (spelled bodies ++ l)) (behind ∙ ap (λ g. g ∷ drop (gate + 1) side) is_open)

      -- a record that doesn't fit
      pub read_unfit : nat_lt (4 + number_at (drop (gate + 1) side)) (length (drop (gate + 1) side)) ≡ false → bodies_of side ≡ None
      read_unfit unfit =
          ap bodies_of opened ∙ from_header (spelled bodies ++ 1 ∷ drop (gate + 1) side)
          ∙ unfit_from (length (header ++ (spelled bodies ++ 1 ∷ drop (gate + 1) side))) bodies (1 ∷ drop (gate + 1) side) (omega arith) none read.short
        where
          none : (f : ℕ) → bodies_from f (1 ∷ drop (gate + 1) side) ≡ None
          none zero = refl
          none (suc f) = λ i. if unfit i then option_map (λ bs. take (number_at (drop (gate + 1) side)) (drop 4 (drop (gate + 1) side)) ∷ bs) (bodies_from f (drop (4 + number_at (drop (gate + 1) side)) (drop (gate + 1) side))) else None

      -- one that does
      module _ (size : ℕ) (body : List ℕ) (fits : nat_lt (4 + number_at (drop (gate + 1) side)) (length (drop (gate + 1) side)) ≡ true) (is : size ≡ number_at (drop (gate + 1) side)) (here : body ≡ take size (drop 4 (drop (gate + 1) side))) (small : (i : ℕ) → get_or side i 0 < 256) (four : size < 2 ^ 32) where
        fit : 4 + size < length (drop (gate + 1) side)
        fit = grind (arith, nat_tests)

        long : length body ≡ size
        long = ap length here ∙ length-take-le size (drop 4 (drop (gate + 1) side)) (omega (arith, fit, length-drop 4 (drop (gate + 1) side)))

        behind_body : drop (4 + size) (drop (gate + 1) side) ≡ drop (gate + (5 + size)) side
        behind_body = drop-drop (4 + size) (gate + 1) side ∙ (let e : gate + 1 + (4 + size) ≡ gate + (5 + size) = omega arith in ap (λ n. drop n side) e)

        whole : drop (gate + 1) side ≡ number32 (length body) ++ body ++ drop (gate + (5 + size)) side
        whole =
            let front : number32 (length body) ≡ take 4 (drop (gate + 1) side) =
            number32-number_at (drop (gate + 1) side) (length body) (omega (arith, fit)) (λ i. subst (λ n. n < 256) (sym (get_or-drop (gate + 1) side i 0)) (small (gate + 1 + i))) (long ∙ is) in
            sym (take-append-drop 4 (drop (gate + 1) side))
            ∙ (λ i. sym front i ++ drop 4 (drop (gate + 1) side))
            ∙ ap (λ (l : List ℕ). number32 (length body) ++ l) (sym (take-append-drop size (drop 4 (drop (gate + 1) side))) ∙ (λ i. sym here i ++ drop size (drop 4 (drop (gate + 1) side))) ∙ ap (λ (l : List ℕ). body ++ l) (drop-drop size 4 (drop (gate + 1) side) ∙ behind_body))
            ∙ sym (append_assoc (number32 (length body)) body (drop (gate + (5 + size)) side))

        pub read_more : IsReadTo side (gate + (5 + size)) (bodies ++ body ∷ [])
        read_more = record {
          spelled_out = opened ∙ ap (λ (l : List ℕ). header ++ (spelled bodies ++ 1 ∷ l)) whole ∙ ap (λ (l : List ℕ). header ++ l) (sym (spelled-push bodies body (drop (gate + (5 + size)) side)));
          at = omega (arith, read.at, length-spelled-push bodies body, long);
          inside = omega (arith, fit, length-drop (gate + 1) side);
          short = short-push bodies body read.short (omega (arith, long, four));
        }
