-- Sets are read as they are spelled.
use Rattle.std.proofs.Common.{◌≡◌, ℕ, suc, ◌<◌, Bool, true, false, cond, ltb, List, [], ◌∷◌, ◌++◌, Result, Ok, Err, refl, sym, ap, ◌∙◌, append_assoc, arith}
use Rattle.std.specs.Prelude.{decimal, map}
use Rattle.std.proofs.lemmas.List.{append-nil}
use Rattle.std.proofs.lemmas.Bool.{lt-ltb, ltb-true}
use Rattle.cg_base.specs.declared.weighted.Weighted.{Weighted}
use Rattle.cg_base.specs.Sets.{Ascends, IsSet, with_member}
use Rattle.cg_base.specs.Weights.{IsWeightSet, Weigh, with_weight, ids as members}
use Rattle.cg_base.specs.Text.{weighted_text}
use Rattle.cg_base.specs.AscendingLaws.{AllBelow, AllBelow-more, AllBelow-next, with_member-last, with_weight-last}
use Rattle.cg_schedule.specs.declared.fault.LineFault.{LineFault}
use Rattle.cg_schedule.specs.Fault.{bad_list}
use Rattle.cg_schedule.specs.Part.{number, weighted}
use Rattle.cg_schedule.specs.Line.{ids_behind, ids, weights_behind, weights}
use Rattle.cg_schedule.specs.Limits.{IsWithin}
use Rattle.cg_schedule.specs.PartLaws.{Nothing, Given, IsToken, IsPart, given}
use Rattle.cg_schedule.proofs.TokenParts.{TextFacts, number_token}
use Rattle.cg_schedule.proofs.MemberParts.{weighted_token}
use Rattle.cg_base.specs.ListLaws.{same_cons}

members-put : (set : List Weighted) (n : Weighted) → members (set ++ n ∷ []) ≡ members set ++ n.id ∷ []
members-put [] n = refl
members-put (m ∷ set) n = ap (λ (t : List ℕ). m.id ∷ t) (members-put set n)

-- ---- identifiers

identifiers : TextFacts → IsToken (IsWithin 1 32) decimal (number 1 32)
identifiers facts = number_token facts 1 32 (omega arith)

ids-again : TextFacts → (last : ℕ) (set rest : List ℕ) → AllBelow (suc last) set → Ascends (suc last) rest → ids last set (map decimal rest) ≡ Ok (set ++ rest, [])
unfolding ids
ids-again facts last set [] below ascends = rw (append-nil set) refl
ids-again facts last set (p ∷ rest) below ascends =
    let low = ascends.0 in
    let last_one : with_member set p ≡ set ++ p ∷ [] = with_member-last set p (AllBelow-more set (suc last) p low below) in
    let put : AllBelow (suc p) (set ++ p ∷ []) = AllBelow-next set p (AllBelow-more set (suc last) p low below) in
    let more = ids-again facts p (set ++ p ∷ []) rest put ascends.2 in
    rw ((identifiers facts).again p (omega arith, ascends.1), lt-ltb last p (omega arith), last_one, more, append_assoc set (p ∷ []) rest) refl

-- the tokens that identifiers were read from
record IdsFound (last : ℕ) (set : List ℕ) (ts : List (List ℕ)) (s : List ℕ) (new : List (List ℕ)) : Type 0 where
  rest : List ℕ
  grown : s ≡ set ++ rest
  ascends : Ascends (suc last) rest
  tokens : ts ≡ map decimal rest
  none : new ≡ []

abbrev read_id : ℕ → Result ℕ LineFault
read_id p = Ok p

ids_behind-ok : (r : Result ℕ LineFault) (last : ℕ) (more : ℕ → Given (List ℕ)) (s : List ℕ) (new : List (List ℕ)) → ids_behind r last more ≡ Ok (s, new) → (p : ℕ) × (r ≡ Ok p) × (last < p) × (more p ≡ Ok (s, new))
ids_behind-ok (Ok p) last more s new e = by_order (ltb last p) refl e where
  by_order : (b : Bool) → ltb last p ≡ b → cond b (more p) (Err bad_list) ≡ Ok (s, new) → (q : ℕ) × (read_id p ≡ Ok q) × (last < q) × (more q ≡ Ok (s, new))
  by_order true o f = (p, refl, ltb-true last p o, f)
  by_order false o f = absurd cc
ids_behind-ok (Err fault) last more s new e = absurd cc

ids-found : TextFacts → (last : ℕ) (set : List ℕ) (ts : List (List ℕ)) (s : List ℕ) (new : List (List ℕ)) → AllBelow (suc last) set → ids last set ts ≡ Ok (s, new) → IdsFound last set ts s new
unfolding ids
ids-found facts last set [] s new below e =
    let g = given set s [] new e in
    record { rest = []; grown = sym g.0 ∙ sym (append-nil set); ascends = tt; tokens = refl; none = sym g.1 }
ids-found facts last set (token ∷ left) s new below e =
    let g = ids_behind-ok (number 1 32 token) last (λ p. ids p (with_member set p) left) s new e in
    let p = g.0 in
    let above = g.2 in
    let f = (identifiers facts).found p token g.1 in
    let under : AllBelow p set = AllBelow-more set (suc last) p (omega arith) below in
    let last_one = with_member-last set p under in
    let next : ids p (set ++ p ∷ []) left ≡ Ok (s, new) = rw (← last_one) g.3 in
    let more = ids-found facts p (set ++ p ∷ []) left s new (AllBelow-next set p under) next in
    record {
      rest = p ∷ more.rest;
      grown = more.grown ∙ append_assoc set (p ∷ []) more.rest;
      ascends = (omega arith, f.0.1, more.ascends);
      tokens = same_cons token (decimal p) left (map decimal more.rest) f.1 more.tokens;
      none = more.none;
    }

pub ids_is : TextFacts → IsPart Nothing IsSet (λ (s : List ℕ). map decimal s) (ids 0 [])
ids_is facts = record {
  again = λ s left ends has. rw (ends, append-nil (map decimal s)) (ids-again facts 0 [] s tt has.ascends);
  found = λ s old new e.
      let f = ids-found facts 0 [] old s new tt e in
      record { from = s; is = refl; has = record { ascends = rw f.grown f.ascends }; tokens = rw (f.none, f.grown, append-nil (map decimal f.rest)) f.tokens };
}

-- ---- identifiers with weights

abbrev pub member_text : Weighted → List ℕ
member_text m = weighted_text m.id m.weight

weights-again : TextFacts → (last : ℕ) (set rest : List Weighted) → AllBelow (suc last) (members set) → Ascends (suc last) (members rest) → Weigh rest → weights last set (map member_text rest) ≡ Ok (set ++ rest, [])
unfolding weights
weights-again facts last set [] below ascends weigh = rw (append-nil set) refl
weights-again facts last set (m ∷ rest) below ascends weigh =
    let low = ascends.0 in
    let under : AllBelow m.id (members set) = AllBelow-more (members set) (suc last) m.id low below in
    let put : AllBelow (suc m.id) (members (set ++ m ∷ [])) = rw (members-put set m) (AllBelow-next (members set) m.id under) in
    let more = weights-again facts m.id (set ++ m ∷ []) rest put ascends.2 weigh.2 in
    rw ((weighted_token facts).again m ((omega arith, ascends.1), (weigh.0, weigh.1)), lt-ltb last m.id (omega arith), with_weight-last set m under, more, append_assoc set (m ∷ []) rest) refl

record WeightsFound (last : ℕ) (set : List Weighted) (ts : List (List ℕ)) (s : List Weighted) (new : List (List ℕ)) : Type 0 where
  rest : List Weighted
  grown : s ≡ set ++ rest
  ascends : Ascends (suc last) (members rest)
  weigh : Weigh rest
  tokens : ts ≡ map member_text rest
  none : new ≡ []

abbrev read_member : Weighted → Result Weighted LineFault
read_member m = Ok m

weights_behind-ok : (r : Result Weighted LineFault) (last : ℕ) (more : Weighted → Given (List Weighted)) (s : List Weighted) (new : List (List ℕ)) → weights_behind r last more ≡ Ok (s, new)
    → (m : Weighted) × (r ≡ Ok m) × (last < m.id) × (more m ≡ Ok (s, new))
weights_behind-ok (Ok m) last more s new e = by_order (ltb last m.id) refl e where
  by_order : (b : Bool) → ltb last m.id ≡ b → cond b (more m) (Err bad_list) ≡ Ok (s, new) → (n : Weighted) × (read_member m ≡ Ok n) × (last < n.id) × (more n ≡ Ok (s, new))
  by_order true o f = (m, refl, ltb-true last m.id o, f)
  by_order false o f = absurd cc
weights_behind-ok (Err fault) last more s new e = absurd cc

weights-found : TextFacts → (last : ℕ) (set : List Weighted) (ts : List (List ℕ)) (s : List Weighted) (new : List (List ℕ)) → AllBelow (suc last) (members set) → weights last set ts ≡ Ok (s, new) → WeightsFound last set ts s new
unfolding weights
weights-found facts last set [] s new below e =
    let g = given set s [] new e in
    record { rest = []; grown = sym g.0 ∙ sym (append-nil set); ascends = tt; weigh = tt; tokens = refl; none = sym g.1 }
weights-found facts last set (token ∷ left) s new below e =
    let g = weights_behind-ok (weighted token) last (λ m. weights m.id (with_weight set m) left) s new e in
    let m = g.0 in
    let above = g.2 in
    let f = (weighted_token facts).found m token g.1 in
    let under : AllBelow m.id (members set) = AllBelow-more (members set) (suc last) m.id (omega arith) below in
    let next : weights m.id (set ++ m ∷ []) left ≡ Ok (s, new) = rw (← with_weight-last set m under) g.3 in
    let put : AllBelow (suc m.id) (members (set ++ m ∷ [])) = rw (members-put set m) (AllBelow-next (members set) m.id under) in
    let more = weights-found facts m.id (set ++ m ∷ []) left s new put next in
    record {
      rest = m ∷ more.rest;
      grown = more.grown ∙ append_assoc set (m ∷ []) more.rest;
      ascends = (omega arith, f.0.0.1, more.ascends);
      weigh = (f.0.1.0, f.0.1.1, more.weigh);
      tokens = same_cons token (member_text m) left (map member_text more.rest) f.1 more.tokens;
      none = more.none;
    }

pub weights_is : TextFacts → IsPart Nothing IsWeightSet (λ (s : List Weighted). map member_text s) (weights 0 [])
weights_is facts = record {
  again = λ s left ends has. rw (ends, append-nil (map member_text s)) (weights-again facts 0 [] s tt has.ascends has.weigh);
  found = λ s old new e.
      let f = weights-found facts 0 [] old s new tt e in
      record { from = s; is = refl; has = record { ascends = rw f.grown f.ascends; weigh = rw f.grown f.weigh }; tokens = rw (f.none, f.grown, append-nil (map member_text f.rest)) f.tokens };
}
