-- An attempt from the newest level covers it: what could become green there is among the greens and the yellow actions that it installs.
use Rattle.std.proofs.Common.{◌≡◌, ℕ, zero, suc, ◌<◌, List, ◌++◌, Option, Some, None, IfSome, refl, sym, ap, ap₂, ◌∙◌, subst, inl, inr, arith, eqb-true}
use Rattle.std.specs.Prelude.{◌==◌, option_and_then}
use Rattle.std.specs.Option.{option_map_or}
use Rattle.std.proofs.lemmas.Bool.{cases_eq}
use Rattle.std.proofs.lemmas.List.{map-append}
use Rattle.cg_base.specs.FindLaws.{found_passes}
use Rattle.cg_action.specs.declared.action.Action.{Action}
use Rattle.cg_queue.specs.Queue.{names_of}
use Rattle.cg_knowledge.specs.declared.summary.Summary.{Summary}
use Rattle.cg_knowledge.specs.Summaries.{most_updated}
use Rattle.cg_knowledge.specs.Yellow.{common_yellow}
use Rattle.cg_model.specs.Chronicle.{Told, Attempt, Chronicle}
use Rattle.cg_model.specs.Fronts.{IsSomeWith}
use Rattle.cg_model.specs.Looks.{attempt_of, told_in, top_of}
use Rattle.cg_model.specs.FactsTalk.{AreTold, whole_talk}
use Rattle.cg_model.specs.FactsExchange.{best_told}
use Rattle.cg_model.specs.FactsGreens.{Covers, CoversLevel}
use Rattle.cg_agree.proofs.ClearedDead.{IsToldIn, each-told}
use Rattle.cg_agree.proofs.CoversStay.{start-covers}
use Rattle.cg_agree.proofs.EndReached.{best-of}
use Rattle.cg_agree.proofs.EndShown.{ToldCovers, Leads, quorum-shows}
use Rattle.cg_agree.proofs.NewestLevel.{shape-of}
use Rattle.cg_agree.proofs.ToldLine.{Behind}

-- of what holds of what the most updated member told
pub lead-of : (c : Chronicle) (conf : ℕ) (heard : List Summary) (P : Told → Type 0) → AreTold c conf heard → IsSomeWith (best_told c conf heard) P → (l : Leads c conf heard) × P l.best
lead-of c conf heard P are is = at (most_updated heard) refl is where
  at : (o : Option Summary) → most_updated heard ≡ o → IsSomeWith (option_and_then (λ s. told_in c conf s.id) o) P → (l : Leads c conf heard) × P l.best
  at None most is = absurd is
  at (Some s) most is = told (told_in c conf s.id) refl is where
    told : (o : Option Told) → told_in c conf s.id ≡ o → IsSomeWith o P → (l : Leads c conf heard) × P l.best
    told None found is = absurd is
    told (Some t) found is =
        let mine = best-of (IsToldIn c conf) heard s most (each-told c conf heard are) in
        let same : mine.told ≡ t = ap (λ o. option_map_or (λ x. x) o mine.told) (sym mine.found ∙ found) in
        (record { best = t; summary = s; most = most; found = found; is = ap (λ (x : Told). x.summary) (sym same) ∙ mine.is }, is)

pub attempts-cover : (c : Chronicle) → Behind c → ToldCovers c → (conf : ℕ) → IfSome (attempt_of c conf) (λ a. a.from ≡ top_of c → Covers c (names_of (a.greens ++ a.yellow)))
attempts-cover c f covered conf = at (attempt_of c conf) refl where
  some : (a : Attempt) → attempt_of c conf ≡ Some a → a.from ≡ top_of c → 0 < top_of c → Covers c (names_of (a.greens ++ a.yellow))
  some a found from above =
      let shape = shape-of c f conf a found in
      let heard = (whole_talk c conf).heard in
      let at : a.conf ≡ conf = eqb-true a.conf conf (found_passes (λ (a : Attempt). a.conf == conf) c.attempts a found) in
      let are = f.talk.heard_is_told conf in
      let lead = lead-of c conf heard (λ best. a.greens ≡ best.greens) are (subst (λ k. IsSomeWith (best_told c k heard) (λ best. a.greens ≡ best.greens)) at shape.parts.greens) in
      let e : names_of (a.greens ++ a.yellow) ≡ names_of lead.0.best.greens ++ (common_yellow heard).list =
      map-append (λ (x : Action). x.id) a.greens a.yellow ∙ ap₂ (λ xs ys. names_of xs ++ ys) lead.1 shape.parts.yellow in
      subst (Covers c) (sym e) (quorum-shows c f covered conf heard are above (sym shape.parts.from ∙ from) lead.0 shape.decided)

  at : (o : Option Attempt) → attempt_of c conf ≡ o → IfSome o (λ a. a.from ≡ top_of c → Covers c (names_of (a.greens ++ a.yellow)))
  at None e = tt
  at (Some a) e = λ from. elim (cases_eq (top_of c) 0) [
    | inl zeroth ↦ subst (λ n. CoversLevel c n (names_of (a.greens ++ a.yellow))) (sym zeroth) (start-covers c (names_of (a.greens ++ a.yellow)))
    | inr apart ↦ some a e from (positive (top_of c) apart)
  ]
    where
      positive : (n : ℕ) → (n ≡ 0 → ⊥) → 0 < n
      positive zero apart = absurd (apart refl)
      positive (suc n) apart = omega arith
