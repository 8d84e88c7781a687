-- Who is or was a server is so behind more greens; and who is a server of the start is so behind none.
use Rattle.std.proofs.Common.{◌≡◌, ℕ, suc, Bool, true, false, not, ◌||◌, List, [], ◌∷◌, map, min, refl, sym, ap, subst, ◌∙◌, eqb-true, eq-eqb, ⊎_elim, if◌then◌else◌, nat_lt}
use Rattle.std.specs.Prelude.{◌==◌}
use Rattle.std.proofs.lemmas.Bool.{cases_eq, cond_both, or_cases, or_left, or_right}
use Rattle.cg_base.specs.declared.weighted.Weighted.{Weighted}
use Rattle.cg_base.specs.Sets.{has, with_member}
use Rattle.cg_base.specs.Weights.{ids}
use Rattle.cg_base.specs.SetLaws.{has-with_member}
use Rattle.cg_action.specs.declared.action.Action.{Action}
use Rattle.cg_action.specs.declared.action.Kind.{Kind}
use Rattle.cg_action.specs.declared.action.Kind.TheVariants.{Update, Join, Leave}
use Rattle.cg_members.specs.declared.server.Server.{Server}
use Rattle.cg_members.specs.Members.{Members}
use Rattle.cg_members.specs.Servers.{is_among, is_server, was_ever, first_line, with_server, without_server, starting, with_joiner, departed, after_kind, after_green, after_greens, members_of}
use Rattle.cg_model.specs.Fronts.{Front}
use Rattle.cg_members.specs.MemberLaws.{is_among-with_line}

among-with : (servers : List Server) (new : Server) (q : ℕ) → is_among servers q ≡ true → is_among (with_server servers new) q ≡ true
among-with [] new q here = absurd (let clash : false ≡ true = here in cc)
among-with (s ∷ servers) new q here =
    cond_both (new.id == s.id) (new ∷ servers) (if nat_lt new.id s.id then new ∷ s ∷ servers else s ∷ with_server servers new) (λ xs. is_among xs q ≡ true)
    (λ y. ap (λ i. (i == q) || is_among servers q) (eqb-true new.id s.id y) ∙ here)
    (λ n. cond_both (nat_lt new.id s.id) (new ∷ s ∷ servers) (s ∷ with_server servers new) (λ xs. is_among xs q ≡ true)
    (λ y. or_right (new.id == q) ((s.id == q) || is_among servers q) here)
    (λ m. ⊎_elim (λ first. or_left (s.id == q) (is_among (with_server servers new) q) first)
    (λ rest. or_right (s.id == q) (is_among (with_server servers new) q) (among-with servers new q rest)) (or_cases (s.id == q) (is_among servers q) here)))

among-without : (servers : List Server) (p q : ℕ) → (q ≡ p → ⊥) → is_among servers q ≡ true → is_among (without_server servers p) q ≡ true
among-without [] p q other here = here
among-without (s ∷ servers) p q other here =
    cond_both (not (s.id == p)) (s ∷ without_server servers p) (without_server servers p) (λ xs. is_among xs q ≡ true)
    (λ stays. ⊎_elim (λ first. or_left (s.id == q) (is_among (without_server servers p) q) first)
    (λ rest. or_right (s.id == q) (is_among (without_server servers p) q) (among-without servers p q other rest)) (or_cases (s.id == q) (is_among servers q) here))
    (λ goes. ⊎_elim
    (λ first. absurd (other (sym (eqb-true s.id q first) ∙ eqb-true s.id p (gone (s.id == p) goes))))
    (λ rest. among-without servers p q other rest) (or_cases (s.id == q) (is_among servers q) here)) where
      gone : (b : Bool) → not b ≡ false → b ≡ true
      gone true e = refl
      gone false e = absurd (let clash : true ≡ false = e in cc)

ever-joined : (m : Members) (p weight place q : ℕ) → was_ever m q ≡ true → was_ever (with_joiner m p weight place) q ≡ true
ever-joined m p weight place q was =
    let new : Server = record { id = p; line = place; weight = weight } in
    cond_both (was_ever m p) m (record m { servers = with_server m.servers new }) (λ x. was_ever x q ≡ true) (λ y. was)
    (λ n. ⊎_elim (λ is. or_left (is_among (with_server m.servers new) q) (has m.left q) (among-with m.servers new q is))
    (λ left. or_right (is_among (with_server m.servers new) q) (has m.left q) left) (or_cases (is_server m q) (has m.left q) was))

ever-departed : (m : Members) (p q : ℕ) → was_ever m q ≡ true → was_ever (departed m p) q ≡ true
ever-departed m p q was =
    let gone : Members = record { servers = without_server m.servers p; left = with_member m.left p } in
    cond_both (is_server m p) gone m (λ x. was_ever x q ≡ true)
    (λ y. ⊎_elim
    (λ same. or_right (is_among gone.servers q) (has gone.left q) (has-with_member m.left p q ∙ or_right (has m.left q) (p == q) (eq-eqb p q (sym same))))
    (λ other. ⊎_elim (λ is. or_left (is_among gone.servers q) (has gone.left q) (among-without m.servers p q other is))
    (λ left. or_right (is_among gone.servers q) (has gone.left q) (has-with_member m.left p q ∙ or_left (has m.left q) (p == q) left)) (or_cases (is_server m q) (has m.left q) was))
    (cases_eq q p))
    (λ n. was)

ever-kind : (m : Members) (place q : ℕ) (kind : Kind) → was_ever m q ≡ true → was_ever (after_kind m place kind) q ≡ true
ever-kind m place q (Update cmds query) was = was
ever-kind m place q (Join joiner weight) was = ever-joined m joiner weight place q was
ever-kind m place q (Leave server) was = ever-departed m server q was

pub ever-green : (m : Members) (place q : ℕ) (a : Action) → was_ever m q ≡ true → was_ever (after_green m place a) q ≡ true
ever-green m place q a was =
    let behind = after_kind m place a.kind in
    ap (λ b. b || has behind.left q) (is_among-with_line behind.servers a.id.creator (min a.green_line place) q) ∙ ever-kind m place q a.kind was

ever-greens : (greens : List Action) (m : Members) (place q : ℕ) → was_ever m q ≡ true → was_ever (after_greens m place greens) q ≡ true
ever-greens [] m place q was = was
ever-greens (a ∷ greens) m place q was = ever-greens greens (after_green m place a) (suc place) q (ever-green m place q a was)

ever-front : (xs ys : List Action) (m : Members) (place q : ℕ) → Front xs ys → was_ever (after_greens m place xs) q ≡ true → was_ever (after_greens m place ys) q ≡ true
ever-front [] ys m place q front was = ever-greens ys m place q was
ever-front (x ∷ xs) [] m place q front was = absurd front
ever-front (x ∷ xs) (y ∷ ys) m place q front was =
    ever-front xs ys (after_green m place y) (suc place) q front.1 (subst (λ a. was_ever (after_greens (after_green m place a) (suc place) xs) q ≡ true) front.0 was)

-- more greens
pub was_ever-front : (start : List Weighted) (xs ys : List Action) (q : ℕ) → Front xs ys → was_ever (members_of start xs) q ≡ true → was_ever (members_of start ys) q ≡ true
was_ever-front start xs ys q front was = ever-front xs ys (starting start) 1 q front was

among-first : (set : List Weighted) (q : ℕ) → has (ids set) q ≡ true → is_among (map first_line set) q ≡ true
among-first [] q here = here
among-first (w ∷ set) q here =
    ⊎_elim (λ first. or_left (w.id == q) (is_among (map first_line set) q) first)
    (λ rest. or_right (w.id == q) (is_among (map first_line set) q) (among-first set q rest)) (or_cases (w.id == q) (has (ids set) q) here)

-- at the start
pub was_ever-start : (set : List Weighted) (q : ℕ) → has (ids set) q ≡ true → was_ever (members_of set []) q ≡ true
was_ever-start set q here = or_left (is_among (map first_line set) q) (has [] q) (among-first set q here)
