-- How far members can reach at a level: what is between an installation and the line, and that nobody reaches further once
-- somebody is out.
use Rattle.std.proofs.Common.{◌≡◌, ℕ, suc, ◌+◌, ◌≤◌, ◌<◌, Bool, true, false, cond, ◌||◌, List, [], ◌∷◌, ◌++◌, length, take, refl, sym, ap, ap₂, ◌∙◌, ⊎_elim, subst, arith, eqb-true, eq-eqb, length-append}
use Rattle.std.specs.Prelude.{◌==◌}
use Rattle.std.specs.List.{list_any, list_all}
use Rattle.std.proofs.lemmas.Bool.{cases_Bool, cond-true, cond_both, and_parts, and_cases, or_cases, or_left, or_right, not-true, not_from_false, ltb-true}
use Rattle.cg_base.specs.Sets.{has}
use Rattle.cg_base.specs.MemberLaws.{list_all_in}
use Rattle.cg_action.specs.declared.action.Action.{Action}
use Rattle.cg_group.specs.State.{has_received}
use Rattle.cg_group.specs.Ready.{all_received}
use Rattle.cg_model.specs.Chronicle.{Attempt, Chronicle}
use Rattle.cg_model.specs.Fronts.{Front}
use Rattle.cg_model.specs.Looks.{conf_of, members_in, ordered_in, is_regular_in, received_by_all, is_received_outside, received_outside, installation}
use Rattle.cg_model.specs.Talk.{acts_in}
use Rattle.cg_model.specs.Levels.{count_in, reached_in, is_live, bound_in, is_frozen_in, is_installed}
use Rattle.cg_agree_lemmas.specs.FrontFacts.{Front-behind, Front-length, Front-take}
use Rattle.cg_agree_lemmas.specs.Reach.{row-within, row-shrinks, greatest-least, greatest-bounds, acts-front, acts-more, take-front, reach-front}

-- ---- tests of a list

pub all-at : (t : ℕ → Bool) (set : List ℕ) (p : ℕ) → list_all t set ≡ true → has set p ≡ true → t p ≡ true
all-at t [] p all is = absurd (let clash : false ≡ true = is in cc)
all-at t (q ∷ set) p all is =
    let parts = and_parts (t q) (list_all t set) all in
    ⊎_elim (λ here. ap t (sym (eqb-true q p here)) ∙ parts.0) (λ there. all-at t set p parts.1 there) (or_cases (q == p) (has set p) is)

pub any-more : (s t : ℕ → Bool) (set : List ℕ) → ((p : ℕ) → s p ≡ true → t p ≡ true) → list_any s set ≡ true → list_any t set ≡ true
any-more s t [] each any = any
any-more s t (q ∷ set) each any =
    ⊎_elim (λ here. or_left (t q) (list_any t set) (each q here)) (λ there. or_right (t q) (list_any t set) (any-more s t set each there)) (or_cases (s q) (list_any s set) any)

-- somebody fails
pub record Fails (t : ℕ → Bool) (set : List ℕ) : Type 0 where
  pub who : ℕ
  pub member : has set who ≡ true
  pub fails : t who ≡ false

pub who-fails : (t : ℕ → Bool) (set : List ℕ) → list_all t set ≡ false → Fails t set
who-fails t [] e = absurd (let clash : true ≡ false = e in cc)
who-fails t (q ∷ set) e = ⊎_elim
    (λ here. record { who = q; member = or_left (q == q) (has set q) (eq-eqb q q refl); fails = here })
    (λ there. (let rest = who-fails t set there in record { who = rest.who; member = or_right (q == rest.who) (has set rest.who) rest.member; fails = rest.fails }))
    (and_cases (t q) (list_all t set) e)

-- ---- between the installation and the line

-- who has installed an attempt has its installation green, and no more behind it than every member has received
pub record AreCounted (c : Chronicle) (a : Attempt) : Type 0 where
  pub least : (p : ℕ) → has a.installed p ≡ true → length (installation a) ≤ count_in c a p
  pub most : (p : ℕ) → has a.installed p ≡ true → count_in c a p ≤ length (installation a) + length (acts_in (take (received_by_all c a.conf) (ordered_in c a.conf)))

-- what every member has received every member outside has
pub all-outside : (c : Chronicle) (conf : ℕ) → received_by_all c conf ≤ received_outside c conf
unfolding all_received
all-outside c conf =
    row-shrinks (is_received_outside c conf) (all_received (conf_of c conf)) (length (ordered_in c conf)) (length (ordered_in c conf))
    (λ k above within all. list_all_in (λ p. is_regular_in c conf p || has_received (conf_of c conf) p k) (members_in c conf)
    (λ p is. or_right (is_regular_in c conf p) (has_received (conf_of c conf) p k) (all-at (λ q. has_received (conf_of c conf) q k) (members_in c conf) p all is)))
    (λ lt. absurd (omega arith))

pub outside-within : (c : Chronicle) (conf : ℕ) → received_outside c conf ≤ length (ordered_in c conf)
outside-within c conf = row-within (is_received_outside c conf) (length (ordered_in c conf))

-- the greatest count is no more than what all members have received, and so no more than the bound
pub reached-received : (c : Chronicle) (a : Attempt) → AreCounted c a →
    reached_in c a ≤ length (installation a) + length (acts_in (take (received_by_all c a.conf) (ordered_in c a.conf)))
reached-received c a counted = greatest-least (count_in c a) a.installed _ counted.most

pub reached-bound : (c : Chronicle) (a : Attempt) → AreCounted c a → reached_in c a ≤ bound_in c a
reached-bound c a counted =
    let far = reached-received c a counted in
    let more = acts-more (received_by_all c a.conf) (received_outside c a.conf) (ordered_in c a.conf) (all-outside c a.conf) in
    cond_both (is_live c a) (length (installation a) + length (acts_in (take (received_outside c a.conf) (ordered_in c a.conf)))) (reached_in c a)
    (λ n. reached_in c a ≤ n) (λ y. omega arith) (λ n. omega arith)

-- where somebody has installed it, the installation is green
first-of : (set : List ℕ) → 0 < length set → (p : ℕ) × (has set p ≡ true)
first-of [] some = absurd (omega arith)
first-of (p ∷ set) some = (p, or_left (p == p) (has set p) (eq-eqb p p refl))

pub installed-reached : (c : Chronicle) (a : Attempt) → AreCounted c a → is_installed a ≡ true → length (installation a) ≤ reached_in c a
installed-reached c a counted installed =
    let one = first-of a.installed (ltb-true 0 (length a.installed) installed) in
    let least = counted.least one.0 one.1 in
    let most = greatest-bounds (count_in c a) a.installed one.0 one.1 in
    omega arith

-- the line of an attempt
abbrev pub line_in : Chronicle → Attempt → List Action
line_in c a = installation a ++ acts_in (ordered_in c a.conf)

pub bound-line : (c : Chronicle) (a : Attempt) → AreCounted c a → bound_in c a ≤ length (line_in c a)
bound-line c a counted =
    let whole = length-append (installation a) (acts_in (ordered_in c a.conf)) in
    let out = acts-of_front (received_outside c a.conf) in
    let all = acts-of_front (received_by_all c a.conf) in
    let far = reached-received c a counted in
    cond_both (is_live c a) (length (installation a) + length (acts_in (take (received_outside c a.conf) (ordered_in c a.conf)))) (reached_in c a)
    (λ n. n ≤ length (line_in c a)) (λ y. omega arith) (λ n. omega arith) where
      acts-of_front : (n : ℕ) → length (acts_in (take n (ordered_in c a.conf))) ≤ length (acts_in (ordered_in c a.conf))
      acts-of_front n = Front-length (acts_in (take n (ordered_in c a.conf))) (acts_in (ordered_in c a.conf)) (acts-front (take n (ordered_in c a.conf)) (ordered_in c a.conf) (Front-take n (ordered_in c a.conf)))

-- ---- nobody reaches further

-- Behind a step the configuration of an attempt has gone on: its members and its installation are the same, its talk has grown at
-- its end, who isn't regular doesn't become so and receives nothing more, and a new place is lacking outside.
pub record GoesOnIn (c d : Chronicle) (conf : ℕ) : Type 0 where
  pub members : members_in d conf ≡ members_in c conf
  pub ordered : Front (ordered_in c conf) (ordered_in d conf)
  pub stays : (p : ℕ) → is_regular_in c conf p ≡ false → is_regular_in d conf p ≡ false
  pub receipts : (p place : ℕ) → is_regular_in c conf p ≡ false → place ≤ length (ordered_in c conf) →
      has_received (conf_of d conf) p place ≡ has_received (conf_of c conf) p place
  pub fresh : length (ordered_in c conf) < length (ordered_in d conf) → (p : ℕ) → is_regular_in d conf p ≡ false →
      has_received (conf_of d conf) p (suc (length (ordered_in c conf))) ≡ false

module _ (c d : Chronicle) (conf : ℕ) (on : GoesOnIn c d conf) where
  -- who is out stays out
  pub frozen-kept : is_frozen_in c conf ≡ true → is_frozen_in d conf ≡ true
  frozen-kept frozen =
      let out = who-fails (is_regular_in c conf) (members_in c conf) (not-true (list_all (is_regular_in c conf) (members_in c conf)) frozen) in
      not_from_false (list_all (is_regular_in d conf) (members_in d conf)) (⊎_elim
      (λ all. absurd (let clash : true ≡ false = sym (all-at (is_regular_in d conf) (members_in d conf) out.who all (ap (λ set. has set out.who) on.members ∙ out.member)) ∙ on.stays out.who out.fails in cc))
      (λ no. no) (cases_Bool (list_all (is_regular_in d conf) (members_in d conf))))

  fewer-outside : (k : ℕ) → 0 < k → k ≤ length (ordered_in c conf) → is_received_outside d conf k ≡ true → is_received_outside c conf k ≡ true
  fewer-outside k above within all =
      list_all_in (λ p. is_regular_in c conf p || has_received (conf_of c conf) p k) (members_in c conf) (λ p is. ⊎_elim
      (λ y. or_left (is_regular_in c conf p) (has_received (conf_of c conf) p k) y)
      (λ out. or_right (is_regular_in c conf p) (has_received (conf_of c conf) p k) (sym (on.receipts p k out within) ∙ ⊎_elim
      (λ regular. absurd (let clash : true ≡ false = sym regular ∙ on.stays p out in cc))
      (λ received. received)
      (or_cases (is_regular_in d conf p) (has_received (conf_of d conf) p k)
      (all-at (λ q. is_regular_in d conf q || has_received (conf_of d conf) q k) (members_in d conf) p all (ap (λ set. has set p) on.members ∙ is)))))
      (cases_Bool (is_regular_in c conf p)))

  -- a new place stops the row
  new-stops : is_frozen_in d conf ≡ true → length (ordered_in c conf) < length (ordered_in d conf) → is_received_outside d conf (suc (length (ordered_in c conf))) ≡ false
  new-stops frozen lt =
      let place = suc (length (ordered_in c conf)) in
      let out = who-fails (is_regular_in d conf) (members_in d conf) (not-true (list_all (is_regular_in d conf) (members_in d conf)) frozen) in
      ⊎_elim
      (λ all. absurd (⊎_elim
      (λ regular. (let clash : true ≡ false = sym regular ∙ out.fails in cc))
      (λ received. (let clash : true ≡ false = sym received ∙ on.fresh lt out.who out.fails in cc))
      (or_cases (is_regular_in d conf out.who) (has_received (conf_of d conf) out.who place)
      (all-at (λ q. is_regular_in d conf q || has_received (conf_of d conf) q place) (members_in d conf) out.who all out.member))))
      (λ no. no) (cases_Bool (is_received_outside d conf place))

  -- what those outside have received in a row doesn't grow
  pub outside-shrinks : is_frozen_in d conf ≡ true → received_outside d conf ≤ received_outside c conf
  outside-shrinks frozen =
      row-shrinks (is_received_outside c conf) (is_received_outside d conf) (length (ordered_in c conf)) (length (ordered_in d conf)) fewer-outside (new-stops frozen)

  -- and the actions below are the same ones
  pub acts-shrink : is_frozen_in d conf ≡ true → (n : ℕ) → n ≤ received_outside d conf →
      length (acts_in (take n (ordered_in d conf))) ≤ length (acts_in (take (received_outside c conf) (ordered_in c conf)))
  acts-shrink frozen n le =
      let less = outside-shrinks frozen in
      let within = outside-within c conf in
      subst (λ xs. length (acts_in xs) ≤ length (acts_in (take (received_outside c conf) (ordered_in c conf))))
      (sym (take-front n (ordered_in c conf) (ordered_in d conf) on.ordered (omega arith)))
      (acts-more n (received_outside c conf) (ordered_in c conf) (omega arith))

-- an attempt before a step and behind it
pub record IsKept (c d : Chronicle) (a b : Attempt) : Type 0 where
  pub conf : b.conf ≡ a.conf
  pub set : b.set ≡ a.set
  pub installation : installation b ≡ installation a
  pub on : GoesOnIn c d a.conf
  -- where nobody is regular there, nobody goes on
  pub still : is_live c a ≡ false → reached_in d b ≤ reached_in c a

module _ (c d : Chronicle) (a b : Attempt) (kept : IsKept c d a b) where
  live-before : is_live d b ≡ true → is_live c a ≡ true
  live-before live =
      any-more (is_regular_in d a.conf) (is_regular_in c a.conf) a.set
      (λ p y. ⊎_elim (λ is. is) (λ out. absurd (let clash : true ≡ false = sym y ∙ kept.on.stays p out in cc)) (cases_Bool (is_regular_in c a.conf p)))
      (ap₂ (λ conf set. list_any (is_regular_in d conf) set) (sym kept.conf) (sym kept.set) ∙ live)

  live-cond : (n m k l : ℕ) → (is_live d b ≡ true → is_live c a ≡ true → n ≤ k) → (is_live d b ≡ false → is_live c a ≡ true → m ≤ k) →
      (is_live d b ≡ false → is_live c a ≡ false → m ≤ l) → cond (is_live d b) n m ≤ cond (is_live c a) k l
  live-cond n m k l both end dead =
      cond_both (is_live d b) n m (λ x. x ≤ cond (is_live c a) k l)
      (λ y. (let before = live-before y in subst (λ x. n ≤ x) (sym (cond-true (is_live c a) k l before)) (both y before)))
      (λ f. cond_both (is_live c a) k l (λ x. m ≤ x) (λ y. end f y) (λ g. dead f g))

  -- the bound doesn't rise
  pub bound-shrinks : AreCounted d b → is_frozen_in d a.conf ≡ true → bound_in d b ≤ bound_in c a
  bound-shrinks counted frozen =
      let same : length (installation b) ≡ length (installation a) = ap length kept.installation in
      let far = subst (λ conf. reached_in d b ≤ length (installation b) + length (acts_in (take (received_by_all d conf) (ordered_in d conf)))) kept.conf (reached-received d b counted) in
      let open_acts = acts-shrink c d a.conf kept.on frozen (received_outside d a.conf) (omega arith) in
      let all_acts = acts-shrink c d a.conf kept.on frozen (received_by_all d a.conf) (all-outside d a.conf) in
      live-cond (length (installation b) + length (acts_in (take (received_outside d b.conf) (ordered_in d b.conf)))) (reached_in d b)
      (length (installation a) + length (acts_in (take (received_outside c a.conf) (ordered_in c a.conf)))) (reached_in c a)
      (λ y z. subst (λ conf. length (installation b) + length (acts_in (take (received_outside d conf) (ordered_in d conf)))
      ≤ length (installation a) + length (acts_in (take (received_outside c a.conf) (ordered_in c a.conf)))) (sym kept.conf) (omega arith))
      (λ y z. omega arith)
      (λ y z. kept.still z)

  line-grows : Front (line_in c a) (line_in d b)
  line-grows =
      subst (λ conf. Front (line_in c a) (installation b ++ acts_in (ordered_in d conf))) (sym kept.conf)
      (subst (λ (xs : List Action). Front (line_in c a) (xs ++ acts_in (ordered_in d a.conf))) (sym kept.installation)
      (Front-behind (installation a) (acts_in (ordered_in c a.conf)) (acts_in (ordered_in d a.conf)) (acts-front (ordered_in c a.conf) (ordered_in d a.conf) kept.on.ordered)))

  -- Nobody reaches further: once somebody is out, what is or can become green behind a step is a front of what was so before.
  pub reach-shrinks : AreCounted c a → AreCounted d b → is_frozen_in d a.conf ≡ true → Front (take (bound_in d b) (line_in d b)) (take (bound_in c a) (line_in c a))
  reach-shrinks before counted frozen =
      reach-front (bound_in d b) (bound_in c a) (line_in c a) (line_in d b) line-grows (bound-shrinks counted frozen) (bound-line c a before)
