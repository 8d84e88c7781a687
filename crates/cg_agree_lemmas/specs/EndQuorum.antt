-- A quorum of the newest primary component has a member of it, whose record is cleared: what could become green is green.
use Rattle.std.proofs.Common.{◌≡◌, ℕ, suc, true, false, not, List, [], ◌∷◌, Option, Some, None, map, fold, take, refl, sym, ap, ◌∙◌, ⊎_elim, ◌⊎◌, inl, inr, eqb-true}
use Rattle.std.specs.Prelude.{◌==◌, is_none}
use Rattle.std.specs.List.{list_all}
use Rattle.std.proofs.lemmas.Bool.{cases_Bool, cond-false, and_parts, or_cases}
use Rattle.cg_base.specs.Sets.{has, with_member}
use Rattle.cg_base.specs.Weights.{ids}
use Rattle.cg_base.specs.SetLaws.{has-with_member, has-without}
use Rattle.cg_action.specs.declared.action.Action.{Action}
use Rattle.cg_records.specs.declared.vulnerable.Vulnerable.{Vulnerable}
use Rattle.cg_vote.specs.Quorum.{is_quorum}
use Rattle.cg_vote.specs.QuorumLaws.{meet}
use Rattle.cg_knowledge.specs.declared.summary.Summary.{Summary}
use Rattle.cg_knowledge.specs.Summaries.{senders, gone, remaining}
use Rattle.cg_knowledge.specs.Primary.{newest_index, known_primary}
use Rattle.cg_knowledge.specs.Vulnerable.{is_cleared, all_bits, decided}
use Rattle.cg_knowledge.specs.Verdict.{records_of, all_cleared, decides}
use Rattle.cg_model.specs.Chronicle.{Attempt, Chronicle}
use Rattle.cg_model.specs.Fronts.{Front}
use Rattle.cg_model.specs.Levels.{bound_in, is_record_of}
use Rattle.cg_agree_lemmas.specs.FrontFacts.{Front-trans}
use Rattle.cg_agree_lemmas.specs.ReachFacts.{line_in}
use Rattle.cg_agree_lemmas.specs.EndCovers.{OfEach}
use Rattle.cg_agree_lemmas.specs.EndCases.{ShowsEnd, cleared-covers}

-- the summary of a sender
pub record SentBy (P : Summary → Type 0) (p : ℕ) : Type 0 where
  pub who : Summary
  pub holds : P who
  pub id : who.id ≡ p

pub senders-of : (P : Summary → Type 0) (heard : List Summary) (set : List ℕ) (p : ℕ) → has (fold (λ set s. with_member set s.id) set heard) p ≡ true → OfEach P heard →
    (has set p ≡ true) ⊎ SentBy P p
senders-of P [] set p e each = inl e
senders-of P (s ∷ heard) set p e each = ⊎_elim
    (λ here. ⊎_elim (λ old. inl old) (λ new. inr (record { who = s; holds = each.0; id = eqb-true s.id p new })) (or_cases (has set p) (s.id == p) (sym (has-with_member set s.id p) ∙ here)))
    (λ there. inr there)
    (senders-of P heard (with_member set s.id) p e each.1)

pub remaining-sent : (P : Summary → Type 0) (heard : List Summary) (p : ℕ) → has (remaining heard) p ≡ true → OfEach P heard → SentBy P p
unfolding remaining senders
remaining-sent P heard p e each =
    let parts = and_parts (has (senders heard) p) (not (has (gone heard) p)) (sym (has-without (senders heard) (gone heard) p) ∙ e) in
    ⊎_elim (λ none. absurd (let clash : false ≡ true = none in cc)) (λ some. some) (senders-of P heard [] p parts.0 each)

-- no record stays
each-none : (f : Summary → Option Vulnerable) (heard : List Summary) → list_all is_none (map f heard) ≡ true → OfEach (λ s. is_none (f s) ≡ true) heard
each-none f [] e = tt
each-none f (s ∷ heard) e = let parts = and_parts (is_none (f s)) (list_all is_none (map f heard)) e in (parts.0, each-none f heard parts.1)

pub cleared-each : (heard : List Summary) → all_cleared heard ≡ true → OfEach (λ s. is_none (decided heard s.vulnerable) ≡ true) heard
unfolding all_cleared records_of
cleared-each heard e = each-none (λ s. decided heard s.vulnerable) heard e

pub none-cleared : (heard : List Summary) (v : Vulnerable) → is_none (decided heard (Some v)) ≡ true → is_cleared heard v ≡ true
none-cleared heard v e = ⊎_elim (λ y. y)
    (λ n. absurd (let clash : false ≡ true = sym (ap is_none (cond-false (is_cleared heard v) None (Some (record v { bits = all_bits heard v.attempt })) n)) ∙ e in cc))
    (cases_Bool (is_cleared heard v))

pub both-each : (P Q : Summary → Type 0) (heard : List Summary) → OfEach P heard → OfEach Q heard → OfEach (λ s. P s × Q s) heard
both-each P Q [] one two = tt
both-each P Q (s ∷ heard) one two = ((one.0, two.0), both-each P Q heard one.1 two.1)

module _ (c : Chronicle) (a : Attempt) (best : List Action) (mine : Summary → List Action) (heard : List Summary) where
  -- a record of the attempt is one from the index before the newest
  pub record FitsNewest (s : Summary) : Type 0 where
    pub shows : ShowsEnd c a best s (mine s)
    pub fits : (v : Vulnerable) → s.vulnerable ≡ Some v → v.attempt ≡ a.conf → (v.set ≡ a.set) × (newest_index heard ≡ suc v.from) × ((known_primary heard).conf ≡ v.attempt)

  -- What could become green at the newest level is green at the most updated member, where a quorum decides.
  pub quorum-covers : ((p : ℕ) → has (ids (known_primary heard).set) p ≡ true → has a.set p ≡ true) → ((r : ℕ) → has a.installed r ≡ true → has a.set r ≡ true) →
      Front best (line_in c a) → decides heard ≡ true → OfEach FitsNewest heard → Front (take (bound_in c a) (line_in c a)) best
  unfolding decides
  quorum-covers set inside line decided_by each =
      let parts = and_parts (is_quorum (known_primary heard).set (remaining heard)) (all_cleared heard) decided_by in
      let share = meet (known_primary heard).set (remaining heard) (remaining heard) parts.0 parts.0 in
      let sent = remaining-sent (λ s. FitsNewest s × (is_none (decided heard s.vulnerable) ≡ true)) heard share.member share.is_in_one
      (both-each FitsNewest (λ s. is_none (decided heard s.vulnerable) ≡ true) heard each (cleared-each heard parts.1)) in
      of_record sent.who.vulnerable sent.who refl sent.holds.0 (ap (λ p. has a.set p) sent.id ∙ set share.member share.is_member) sent.holds.1 where
        shown : (rest : List Summary) → OfEach FitsNewest rest → OfEach (λ s. ShowsEnd c a best s (mine s)) rest
        shown [] each = tt
        shown (s ∷ rest) each = (each.0.shows, shown rest each.1)

        of_record : (o : Option Vulnerable) (s : Summary) → s.vulnerable ≡ o → FitsNewest s → has a.set s.id ≡ true → is_none (decided heard s.vulnerable) ≡ true →
            Front (take (bound_in c a) (line_in c a)) best
        of_record None s is fits member cleared =
            Front-trans (take (bound_in c a) (line_in c a)) (mine s) best (fits.shows.without member (ap (is_record_of a.conf) is)) fits.shows.front
        of_record (Some v) s is fits member cleared = ⊎_elim
            (λ own. (let facts = fits.fits v is (eqb-true v.attempt a.conf own) in
            cleared-covers c a best mine heard v (eqb-true v.attempt a.conf own) facts.0 inside line facts.1 facts.2
            (none-cleared heard v (ap (λ z. is_none (decided heard z)) (sym is) ∙ cleared)) (shown heard each)))
            (λ other. Front-trans (take (bound_in c a) (line_in c a)) (mine s) best (fits.shows.without member (ap (is_record_of a.conf) is ∙ other)) fits.shows.front)
            (cases_Bool (v.attempt == a.conf))
