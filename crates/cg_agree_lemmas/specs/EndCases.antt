-- How a record of the attempt that formed the newest primary component is cleared, and that what could become green there is
-- green at the most updated member then.
use Rattle.std.proofs.Common.{◌≡◌, ℕ, zero, suc, ◌+◌, ◌≤◌, Bool, true, false, not, ◌&&◌, ◌||◌, List, [], ◌∷◌, Option, Some, None, length, take, fold, refl, sym, ap, ap₂, ◌∙◌, ⊎_elim, ◌⊎◌, inl, inr, subst, arith, eq-eqb, if◌then◌else◌}
use Rattle.std.specs.Prelude.{◌==◌}
use Rattle.std.specs.Option.{option_map_or}
use Rattle.std.specs.List.{list_any}
use Rattle.std.proofs.lemmas.Bool.{cond-false, and_parts, or_cases, or_left, or_right, not-true, leb-true}
use Rattle.cg_base.specs.Sets.{has, union, is_within}
use Rattle.cg_base.specs.SetLaws.{has-union}
use Rattle.cg_action.specs.declared.action.Action.{Action}
use Rattle.cg_group.specs.declared.phase.Phase.{Phase}
use Rattle.cg_group.specs.declared.phase.Phase.TheVariants.{Down, Alone, Regular, Transitional}
use Rattle.cg_group.specs.State.{phase_of}
use Rattle.cg_records.specs.declared.vulnerable.Vulnerable.{Vulnerable}
use Rattle.cg_knowledge.specs.declared.summary.Summary.{Summary}
use Rattle.cg_knowledge.specs.Primary.{newest_index, known_primary}
use Rattle.cg_knowledge.specs.Vulnerable.{is_vulnerable_for, with_bits, all_bits, is_long_past, is_overtaken, is_ended_by_one, is_ended_by_all, is_cleared}
use Rattle.cg_model.specs.Chronicle.{Attempt, Chronicle}
use Rattle.cg_model.specs.Fronts.{Front}
use Rattle.cg_model.specs.Looks.{greens_of, is_regular_at, is_regular_in, is_at, is_in, ordered_in, received_outside, installation, left_count}
use Rattle.cg_model.specs.Talk.{acts_in}
use Rattle.cg_model.specs.Levels.{count_in, reached_in, is_live, bound_in, is_record_of}
use Rattle.cg_agree_lemmas.specs.FrontFacts.{Front-trans, Front-length, Front-of_both, Front-take}
use Rattle.cg_agree_lemmas.specs.Reach.{greatest-least}
use Rattle.cg_agree_lemmas.specs.ReachFacts.{all-at, line_in}
use Rattle.cg_agree_lemmas.specs.EndCovers.{OfEach}

-- ---- how a record is cleared

-- a record of the attempt that formed the newest primary component is cleared by a member without it, or by all bits
pub cleared-cases : (heard : List Summary) (v : Vulnerable) → newest_index heard ≡ suc v.from → (known_primary heard).conf ≡ v.attempt → is_cleared heard v ≡ true →
    (is_ended_by_one heard v ≡ true) ⊎ (is_ended_by_all heard v ≡ true)
unfolding is_cleared is_long_past is_overtaken
cleared-cases heard v newest known cleared = ⊎_elim
    (λ long. absurd (let le = leb-true (v.from + 2) (newest_index heard) long in omega (arith, le, newest)))
    (λ rest. ⊎_elim
    (λ over. absurd (
    let parts = and_parts (newest_index heard == v.from + 1) (not ((known_primary heard).conf == v.attempt)) over in
    let clash : false ≡ true = sym (ap not (eq-eqb (known_primary heard).conf v.attempt known)) ∙ parts.1 in
    cc))
    (λ last. or_cases (is_ended_by_one heard v) (is_ended_by_all heard v) last)
    (or_cases (is_overtaken heard v) (is_ended_by_one heard v || is_ended_by_all heard v) rest))
    (or_cases (is_long_past heard v) (is_overtaken heard v || (is_ended_by_one heard v || is_ended_by_all heard v)) cleared)

-- a member without the record
pub record Without (P : Summary → Type 0) (v : Vulnerable) : Type 0 where
  pub who : Summary
  pub holds : P who
  pub member : has v.set who.id ≡ true
  pub without : is_vulnerable_for v.attempt who ≡ false

pub one-without : (P : Summary → Type 0) (heard : List Summary) (v : Vulnerable) → is_ended_by_one heard v ≡ true → OfEach P heard → Without P v
unfolding is_ended_by_one
one-without P [] v e each = absurd (let clash : false ≡ true = e in cc)
one-without P (s ∷ heard) v e each = ⊎_elim
    (λ here. (let parts = and_parts (has v.set s.id) (not (is_vulnerable_for v.attempt s)) here in
    record { who = s; holds = each.0; member = parts.0; without = not-true (is_vulnerable_for v.attempt s) parts.1 }))
    (λ there. one-without P heard v there each.1)
    (or_cases (has v.set s.id && not (is_vulnerable_for v.attempt s)) (list_any (λ s. has v.set s.id && not (is_vulnerable_for v.attempt s)) heard) e)

-- the member's record of the attempt has that bit
abbrev pub has_bit : ℕ → ℕ → Option Vulnerable → Bool
has_bit attempt r v = option_map_or (λ v. (v.attempt == attempt) && has v.bits r) v false

pub record Witness (P : Summary → Type 0) (attempt r : ℕ) : Type 0 where
  pub who : Summary
  pub holds : P who
  pub bit : has_bit attempt r who.vulnerable ≡ true

bits-of : (attempt : ℕ) (bits : List ℕ) (s : Summary) (r : ℕ) → has (with_bits attempt bits s) r ≡ true → (has bits r ≡ true) ⊎ (has_bit attempt r s.vulnerable ≡ true)
bits-of attempt bits s r e = at s.vulnerable e where
  with_record : (v : Vulnerable) (b : Bool) → (v.attempt == attempt) ≡ b → has (if b then union bits v.bits else bits) r ≡ true → (has bits r ≡ true) ⊎ (((v.attempt == attempt) && has v.bits r) ≡ true)
  with_record v true is e = ⊎_elim (λ old. inl old) (λ new. inr (rw is new)) (or_cases (has bits r) (has v.bits r) (sym (has-union bits v.bits r) ∙ e))
  with_record v false is e = inl e

  at : (o : Option Vulnerable) → has (option_map_or (λ v. if v.attempt == attempt then union bits v.bits else bits) o bits) r ≡ true → (has bits r ≡ true) ⊎ (has_bit attempt r o ≡ true)
  at None e = inl e
  at (Some v) e = with_record v (v.attempt == attempt) refl e

pub all-bits-of : (P : Summary → Type 0) (attempt : ℕ) (heard : List Summary) (bits : List ℕ) (r : ℕ) → has (fold (with_bits attempt) bits heard) r ≡ true → OfEach P heard →
    (has bits r ≡ true) ⊎ Witness P attempt r
all-bits-of P attempt [] bits r e each = inl e
all-bits-of P attempt (s ∷ heard) bits r e each = ⊎_elim
    (λ here. ⊎_elim (λ old. inl old) (λ bit. inr (record { who = s; holds = each.0; bit = bit })) (bits-of attempt bits s r here))
    (λ there. inr there)
    (all-bits-of P attempt heard (with_bits attempt bits s) r e each.1)

-- where all bits are there, some member's record has the bit of each
pub all-witnessed : (P : Summary → Type 0) (heard : List Summary) (v : Vulnerable) (r : ℕ) → is_ended_by_all heard v ≡ true → has v.set r ≡ true → OfEach P heard →
    Witness P v.attempt r
unfolding is_ended_by_all all_bits
all-witnessed P heard v r e member each =
    let parts = and_parts (is_within (all_bits heard v.attempt) v.set) (is_within v.set (all_bits heard v.attempt)) e in
    let bit : has (all_bits heard v.attempt) r ≡ true = all-at (has (all_bits heard v.attempt)) v.set r parts.1 member in
    ⊎_elim (λ none. absurd (let clash : false ≡ true = none in cc)) (λ some. some) (all-bits-of P v.attempt heard [] r bit each)

-- ---- what could become green

-- What a summary shows of the attempt that formed the newest primary component, where no yellow list is valid: its sender's greens
-- are a front of the most updated one's; a member without the record covers all that could become green; and the bits of a record
-- are those of members that are out, with no more greens as they left.
pub record ShowsEnd (c : Chronicle) (a : Attempt) (best : List Action) (s : Summary) (mine : List Action) : Type 0 where
  pub front : Front mine best
  pub without : has a.set s.id ≡ true → is_record_of a.conf s.vulnerable ≡ false → Front (take (bound_in c a) (line_in c a)) mine
  pub bits : (r : ℕ) → has_bit a.conf r s.vulnerable ≡ true → (is_in c a.conf r ≡ false) × (left_count a r ≤ length mine)

regular-at-in : (conf : ℕ) (phase : Phase) → is_at conf phase ≡ false → is_regular_at conf phase ≡ false
regular-at-in conf Down e = refl
regular-at-in conf Alone e = refl
regular-at-in conf (Regular at) e = e
regular-at-in conf (Transitional at set) e = refl

none-any : (t : ℕ → Bool) (set : List ℕ) → ((p : ℕ) → has set p ≡ true → t p ≡ false) → list_any t set ≡ false
none-any t [] each = refl
none-any t (q ∷ set) each =
    ap₂ (λ a b. a || b) (each q (or_left (q == q) (has set q) (eq-eqb q q refl))) (none-any t set (λ p is. each p (or_right (q == p) (has set p) is)))

pub take-short : {X : Type 0} (n : ℕ) (xs : List X) → length (take n xs) ≤ n
take-short zero xs = omega arith
take-short (suc n) [] = omega arith
take-short (suc n) (x ∷ xs) = let le = take-short n xs in omega arith

module _ (c : Chronicle) (a : Attempt) (best : List Action) (mine : Summary → List Action) (heard : List Summary) (v : Vulnerable) where
  -- by all bits: nobody is there any more, and none had more greens than the most updated member
  all-out : v.attempt ≡ a.conf → v.set ≡ a.set → ((r : ℕ) → has a.installed r ≡ true → has a.set r ≡ true) → Front best (line_in c a) →
      OfEach (λ s. ShowsEnd c a best s (mine s)) heard → is_ended_by_all heard v ≡ true → Front (take (bound_in c a) (line_in c a)) best
  all-out attempt set inside line each ended =
      let witness : (r : ℕ) → has a.set r ≡ true → (is_in c a.conf r ≡ false) × (left_count a r ≤ length best) =
      λ r is. (let w = all-witnessed (λ s. ShowsEnd c a best s (mine s)) heard v r ended (ap (λ xs. has xs r) set ∙ is) each in
      let shown = w.holds.bits r (ap (λ k. has_bit k r w.who.vulnerable) (sym attempt) ∙ w.bit) in
      let less = Front-length (mine w.who) best w.holds.front in
      let few = shown.1 in
      (shown.0, omega arith)) in
      let dead : is_live c a ≡ false = none-any (is_regular_in c a.conf) a.set (λ r is. regular-at-in a.conf (phase_of c.world.group r) (witness r is).0) in
      let bound : bound_in c a ≡ reached_in c a = cond-false (is_live c a) (length (installation a) + length (acts_in (take (received_outside c a.conf) (ordered_in c a.conf)))) (reached_in c a) dead in
      let most : reached_in c a ≤ length best = greatest-least (count_in c a) a.installed (length best) (λ r is. (
      let w = witness r (inside r is) in
      subst (λ n. n ≤ length best) (sym (cond-false (is_in c a.conf r) (length (greens_of c r)) (left_count a r) w.0)) w.1)) in
      Front-of_both (take (bound_in c a) (line_in c a)) best (line_in c a) (Front-take (bound_in c a) (line_in c a)) line
      (let short = take-short (bound_in c a) (line_in c a) in omega (arith, short, bound, most))

  -- What could become green at the newest level is green at the most updated member, where a record of its attempt is cleared.
  pub cleared-covers : v.attempt ≡ a.conf → v.set ≡ a.set → ((r : ℕ) → has a.installed r ≡ true → has a.set r ≡ true) → Front best (line_in c a) →
      newest_index heard ≡ suc v.from → (known_primary heard).conf ≡ v.attempt → is_cleared heard v ≡ true →
      OfEach (λ s. ShowsEnd c a best s (mine s)) heard → Front (take (bound_in c a) (line_in c a)) best
  cleared-covers attempt set inside line newest known cleared each = ⊎_elim
      (λ one. (let w = one-without (λ s. ShowsEnd c a best s (mine s)) heard v one each in
      Front-trans (take (bound_in c a) (line_in c a)) (mine w.who) best
      (w.holds.without (ap (λ xs. has xs w.who.id) (sym set) ∙ w.member) (ap (λ k. is_record_of k w.who.vulnerable) (sym attempt) ∙ w.without)) w.holds.front))
      (λ all. all-out attempt set inside line each all)
      (cleared-cases heard v newest known cleared)
