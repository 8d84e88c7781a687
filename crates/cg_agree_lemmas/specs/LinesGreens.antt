-- The lines of servers behind green actions: that of one who has made nothing is the place of its join, and none falls.
use Rattle.std.proofs.Common.{◌≡◌, ℕ, suc, ◌+◌, ◌≤◌, ◌<◌, Bool, true, false, cond, not, ◌||◌, ◌⊎◌, inl, inr, List, [], ◌∷◌, map, length, min, max, refl, sym, ap, subst, ◌∙◌, arith, eqb-true, eq-eqb, if◌then◌else◌, nat_lt}
use Rattle.std.specs.Prelude.{◌==◌}
use Rattle.std.proofs.lemmas.Bool.{cases_Bool, cond-true, cond-false, cond_both, or_left, or_right, or_cases, ne_eqb, false_from_ne_true, not-false}
use Rattle.cg_base.specs.Sets.{has, with_member}
use Rattle.cg_base.specs.SetLaws.{has-with_member}
use Rattle.cg_base.specs.Lists.{Each}
use Rattle.cg_action.specs.declared.action.Action.{Action}
use Rattle.cg_action.specs.declared.action.Kind.{Kind}
use Rattle.cg_action.specs.declared.action.Kind.TheVariants.{Update, Join, Leave}
use Rattle.cg_members.specs.declared.server.Server.{Server}
use Rattle.cg_members.specs.Members.{Members}
use Rattle.cg_members.specs.Listed.{line_of}
use Rattle.cg_members.specs.Servers.{is_among, is_server, was_ever, with_server, without_server, with_line, after_kind, after_green, after_greens}
use Rattle.cg_model.specs.Fronts.{Front}
use Rattle.cg_model.specs.FactsReplica.{joins, join_from}
use Rattle.cg_agree_lemmas.specs.EverServer.{ever-green}
use Rattle.cg_agree_lemmas.specs.LinesTold.{line-with}
use Rattle.cg_members.specs.MemberLaws.{is_among-with_line, line_of-raised}

-- ---- lines in a list of servers

line-raised-other : (servers : List Server) (p line q : ℕ) → (p ≡ q → ⊥) → line_of (map (with_line p line) servers) q ≡ line_of servers q
line-raised-other [] p line q apart = refl
line-raised-other (s ∷ servers) p line q apart =
    let new : Server = record s { line = max s.line line } in
    cond_both (s.id == p) new s (λ x. line_of (x ∷ map (with_line p line) servers) q ≡ line_of (s ∷ servers) q)
    (λ y. cond_both (s.id == q) (max s.line line) (line_of (map (with_line p line) servers) q) (λ n. n ≡ cond (s.id == q) s.line (line_of servers q))
    (λ z. absurd (apart (sym (eqb-true s.id p y) ∙ eqb-true s.id q z)))
    (λ z. line-raised-other servers p line q apart ∙ sym (cond-false (s.id == q) s.line (line_of servers q) z)))
    (λ n. ap (cond (s.id == q) s.line) (line-raised-other servers p line q apart))

line-without-other : (servers : List Server) (p q : ℕ) → (p ≡ q → ⊥) → line_of (without_server servers p) q ≡ line_of servers q
line-without-other [] p q apart = refl
line-without-other (s ∷ servers) p q apart =
    cond_both (not (s.id == p)) (s ∷ without_server servers p) (without_server servers p) (λ xs. line_of xs q ≡ line_of (s ∷ servers) q)
    (λ y. ap (cond (s.id == q) s.line) (line-without-other servers p q apart))
    (λ n. line-without-other servers p q apart
    ∙ sym (cond-false (s.id == q) s.line (line_of servers q) (ne_eqb s.id q (λ e. apart (sym (eqb-true s.id p (not-false (s.id == p) n)) ∙ e)))))

among-with-back : (servers : List Server) (new : Server) (q : ℕ) → is_among (with_server servers new) q ≡ true → ((new.id == q) ≡ true) ⊎ (is_among servers q ≡ true)
among-with-back [] new q = λ there. elim (or_cases (new.id == q) false there) [ inl a ↦ inl a | inr b ↦ absurd (let clash : false ≡ true = b in cc) ]
among-with-back (s ∷ servers) new q =
    cond_both (new.id == s.id) (new ∷ servers) (if nat_lt new.id s.id then new ∷ s ∷ servers else s ∷ with_server servers new)
    (λ xs. is_among xs q ≡ true → ((new.id == q) ≡ true) ⊎ (is_among (s ∷ servers) q ≡ true))
    (λ y there. elim (or_cases (new.id == q) (is_among servers q) there) [ inl a ↦ inl a | inr b ↦ inr (or_right (s.id == q) (is_among servers q) b) ])
    (λ n. cond_both (nat_lt new.id s.id) (new ∷ s ∷ servers) (s ∷ with_server servers new) (λ xs. is_among xs q ≡ true → ((new.id == q) ≡ true) ⊎ (is_among (s ∷ servers) q ≡ true))
    (λ y there. or_cases (new.id == q) ((s.id == q) || is_among servers q) there)
    (λ m there. elim (or_cases (s.id == q) (is_among (with_server servers new) q) there) [
      | inl a ↦ inr (or_left (s.id == q) (is_among servers q) a)
      | inr b ↦ elim (among-with-back servers new q b) [ inl a ↦ inl a | inr rest ↦ inr (or_right (s.id == q) (is_among servers q) rest) ]
    ]))

among-new : (servers : List Server) (new : Server) (q : ℕ) → (new.id == q) ≡ true → is_among (with_server servers new) q ≡ true
among-new [] new q y = or_left (new.id == q) false y
among-new (s ∷ servers) new q y =
    cond_both (new.id == s.id) (new ∷ servers) (if nat_lt new.id s.id then new ∷ s ∷ servers else s ∷ with_server servers new) (λ xs. is_among xs q ≡ true)
    (λ z. or_left (new.id == q) (is_among servers q) y)
    (λ z. cond_both (nat_lt new.id s.id) (new ∷ s ∷ servers) (s ∷ with_server servers new) (λ xs. is_among xs q ≡ true)
    (λ w. or_left (new.id == q) ((s.id == q) || is_among servers q) y)
    (λ w. or_right (s.id == q) (is_among (with_server servers new) q) (among-new servers new q y)))

among-without-back : (servers : List Server) (p q : ℕ) → is_among (without_server servers p) q ≡ true → (p ≡ q → ⊥) × (is_among servers q ≡ true)
among-without-back [] p q = λ there. absurd (let clash : false ≡ true = there in cc)
among-without-back (s ∷ servers) p q =
    cond_both (not (s.id == p)) (s ∷ without_server servers p) (without_server servers p) (λ xs. is_among xs q ≡ true → (p ≡ q → ⊥) × (is_among (s ∷ servers) q ≡ true))
    (λ y there. elim (or_cases (s.id == q) (is_among (without_server servers p) q) there) [
      | inl a ↦ ((λ e. (let clash : true ≡ false = sym (eq-eqb s.id p (eqb-true s.id q a ∙ sym e)) ∙ is-false (s.id == p) y in cc)), or_left (s.id == q) (is_among servers q) a)
      | inr b ↦ (let rest = among-without-back servers p q b in (rest.0, or_right (s.id == q) (is_among servers q) rest.1))
    ])
    (λ n there. (let rest = among-without-back servers p q there in (rest.0, or_right (s.id == q) (is_among servers q) rest.1))) where
      is-false : (b : Bool) → not b ≡ true → b ≡ false
      is-false true e = absurd (let clash : false ≡ true = e in cc)
      is-false false e = refl

-- ---- the first join of a replica

pub join-within : (greens : List Action) (base q : ℕ) → join_from base greens q ≤ base + length greens
join-within [] base q = omega arith
join-within (a ∷ greens) base q =
    cond_both (joins q a.kind) (suc base) (join_from (suc base) greens q) (λ n. n ≤ base + suc (length greens)) (λ y. omega arith)
    (λ n. let rest = join-within greens (suc base) q in omega arith)

pub join-front : (xs ys : List Action) (base q : ℕ) → Front xs ys → 0 < join_from base xs q → join_from base ys q ≡ join_from base xs q
join-front [] ys base q front some = absurd (omega arith)
join-front (x ∷ xs) [] base q front some = absurd front
join-front (x ∷ xs) (y ∷ ys) base q front some = elim (cases_Bool (joins q x.kind)) [
  | inl e ↦
      ap (λ (a : Action). cond (joins q a.kind) (suc base) (join_from (suc base) ys q)) (sym front.0)
      ∙ cond-true (joins q x.kind) (suc base) (join_from (suc base) ys q) e ∙ sym (cond-true (joins q x.kind) (suc base) (join_from (suc base) xs q) e)
  | inr e ↦
      ap (λ (a : Action). cond (joins q a.kind) (suc base) (join_from (suc base) ys q)) (sym front.0)
      ∙ cond-false (joins q x.kind) (suc base) (join_from (suc base) ys q) e
      ∙ join-front xs ys (suc base) q front.1 (subst (λ n. 0 < n) (cond-false (joins q x.kind) (suc base) (join_from (suc base) xs q) e) some)
      ∙ sym (cond-false (joins q x.kind) (suc base) (join_from (suc base) xs q) e)
]

-- who is or was a server was one before, or joins
ever-kind-back : (m : Members) (place q : ℕ) (kind : Kind) → was_ever (after_kind m place kind) q ≡ true → (was_ever m q ≡ true) ⊎ (joins q kind ≡ true)
ever-kind-back m place q (Update cmds query) = λ was. inl was
ever-kind-back m place q (Join joiner weight) =
    let new : Server = record { id = joiner; line = place; weight = weight } in
    cond_both (was_ever m joiner) m (record m { servers = with_server m.servers new }) (λ x. was_ever x q ≡ true → (was_ever m q ≡ true) ⊎ ((joiner == q) ≡ true))
    (λ y was. inl was)
    (λ n was. elim (or_cases (is_among (with_server m.servers new) q) (has m.left q) was) [
      | inl is ↦ elim (among-with-back m.servers new q is) [ inl a ↦ inr a | inr b ↦ inl (or_left (is_server m q) (has m.left q) b) ]
      | inr left ↦ inl (or_right (is_server m q) (has m.left q) left)
    ])
ever-kind-back m place q (Leave server) =
    let gone : Members = record { servers = without_server m.servers server; left = with_member m.left server } in
    cond_both (is_server m server) gone m (λ x. was_ever x q ≡ true → (was_ever m q ≡ true) ⊎ (false ≡ true))
    (λ y was. elim (or_cases (is_among gone.servers q) (has gone.left q) was) [
      | inl is ↦ inl (or_left (is_server m q) (has m.left q) (among-without-back m.servers server q is).1)
      | inr left ↦ elim (or_cases (has m.left q) (server == q) (sym (has-with_member m.left server q) ∙ left)) [
        | inl a ↦ inl (or_right (is_server m q) (has m.left q) a)
        | inr same ↦ inl (or_left (is_server m q) (has m.left q) (ap (is_server m) (sym (eqb-true server q same)) ∙ y))
      ]
    ])
    (λ n was. inl was)

ever-green-back : (m : Members) (place q : ℕ) (a : Action) → was_ever (after_green m place a) q ≡ true → (was_ever m q ≡ true) ⊎ (joins q a.kind ≡ true)
ever-green-back m place q a was =
    let behind = after_kind m place a.kind in
    ever-kind-back m place q a.kind (sym (ap (λ b. b || has behind.left q) (is_among-with_line behind.servers a.id.creator (min a.green_line place) q)) ∙ was)

pub ever-joined : (greens : List Action) (m : Members) (base q : ℕ) → was_ever (after_greens m (suc base) greens) q ≡ true → (was_ever m q ≡ true) ⊎ (0 < join_from base greens q)
ever-joined [] m base q was = inl was
ever-joined (a ∷ greens) m base q was = elim (cases_Bool (joins q a.kind)) [
  | inl joined ↦ inr (subst (λ n. 0 < n) (sym (cond-true (joins q a.kind) (suc base) (join_from (suc base) greens q) joined)) (omega arith))
  | inr other ↦ elim (ever-joined greens (after_green m (suc base) a) (suc base) q was) [
    | inr later ↦ inr (subst (λ n. 0 < n) (sym (cond-false (joins q a.kind) (suc base) (join_from (suc base) greens q) other)) later)
    | inl before ↦ elim (ever-green-back m (suc base) q a before) [ inl is ↦ inl is | inr joined ↦ absurd (let clash : true ≡ false = sym joined ∙ other in cc) ]
  ]
]

-- ---- one action

-- what an action does to the line of one that it isn't of
record LineStays (m n : Members) (q : ℕ) : Type 0 where
  pub server : is_server m q ≡ true
  pub line : line_of n.servers q ≡ line_of m.servers q

stays-kind : (m : Members) (place q : ℕ) (kind : Kind) → was_ever m q ≡ true → is_server (after_kind m place kind) q ≡ true → LineStays m (after_kind m place kind) q
stays-kind m place q (Update cmds query) was = λ is. record { server = is; line = refl }
stays-kind m place q (Join joiner weight) was =
    let new : Server = record { id = joiner; line = place; weight = weight } in
    cond_both (was_ever m joiner) m (record m { servers = with_server m.servers new }) (λ x. is_server x q ≡ true → LineStays m x q)
    (λ y is. record { server = is; line = refl })
    (λ n is. elim (among-with-back m.servers new q is) [
      | inl same ↦ absurd (let clash : true ≡ false = sym was ∙ ap (was_ever m) (sym (eqb-true joiner q same)) ∙ n in cc)
      | inr there ↦ record {
        server = there;
        line = line-with m.servers new q ∙ cond-false (joiner == q) place (line_of m.servers q)
            (ne_eqb joiner q (λ e. (let clash : true ≡ false = sym was ∙ ap (was_ever m) (sym e) ∙ n in cc)));
      }
    ])
stays-kind m place q (Leave server) was =
    let gone : Members = record { servers = without_server m.servers server; left = with_member m.left server } in
    cond_both (is_server m server) gone m (λ x. is_server x q ≡ true → LineStays m x q)
    (λ y is. (let back = among-without-back m.servers server q is in record { server = back.1; line = line-without-other m.servers server q back.0 }))
    (λ n is. record { server = is; line = refl })

stays-green : (m : Members) (place q : ℕ) (a : Action) → (a.id.creator ≡ q → ⊥) → was_ever m q ≡ true → is_server (after_green m place a) q ≡ true → LineStays m (after_green m place a) q
stays-green m place q a apart was is =
    let behind = after_kind m place a.kind in
    let kind = stays-kind m place q a.kind was (sym (is_among-with_line behind.servers a.id.creator (min a.green_line place) q) ∙ is) in
    record { server = kind.server; line = line-raised-other behind.servers a.id.creator (min a.green_line place) q apart ∙ kind.line }

line-stays : (greens : List Action) (m : Members) (base q : ℕ) → Each (λ a. a.id.creator ≡ q → ⊥) greens → was_ever m q ≡ true → is_server (after_greens m (suc base) greens) q ≡ true →
    LineStays m (after_greens m (suc base) greens) q
line-stays [] m base q apart was is = record { server = is; line = refl }
line-stays (a ∷ greens) m base q apart was is =
    let rest = line-stays greens (after_green m (suc base) a) (suc base) q apart.1 (ever-green m (suc base) q a was) is in
    let one = stays-green m (suc base) q a apart.0 was rest.server in
    record { server = one.server; line = rest.line ∙ one.line }

-- a join
record HasJoined (m : Members) (q place : ℕ) : Type 0 where
  pub ever : was_ever m q ≡ true
  pub line : line_of m.servers q ≡ place

joins-kind : (m : Members) (place q : ℕ) (kind : Kind) → joins q kind ≡ true → was_ever m q ≡ false → HasJoined (after_kind m place kind) q place
joins-kind m place q (Update cmds query) joined none = absurd (let clash : false ≡ true = joined in cc)
joins-kind m place q (Leave server) joined none = absurd (let clash : false ≡ true = joined in cc)
joins-kind m place q (Join joiner weight) joined none =
    let new : Server = record { id = joiner; line = place; weight = weight } in
    cond_both (was_ever m joiner) m (record m { servers = with_server m.servers new }) (λ x. HasJoined x q place)
    (λ y. absurd (let clash : true ≡ false = sym y ∙ ap (was_ever m) (eqb-true joiner q joined) ∙ none in cc))
    (λ n. record {
      ever = or_left (is_among (with_server m.servers new) q) (has m.left q) (among-new m.servers new q joined);
      line = line-with m.servers new q ∙ cond-true (joiner == q) place (line_of m.servers q) joined;
    })

joins-green : (m : Members) (place q : ℕ) (a : Action) → (a.id.creator ≡ q → ⊥) → joins q a.kind ≡ true → was_ever m q ≡ false → HasJoined (after_green m place a) q place
joins-green m place q a apart joined none =
    let behind = after_kind m place a.kind in
    let kind = joins-kind m place q a.kind joined none in
    record {
      ever = ap (λ b. b || has behind.left q) (is_among-with_line behind.servers a.id.creator (min a.green_line place) q) ∙ kind.ever;
      line = line-raised-other behind.servers a.id.creator (min a.green_line place) q apart ∙ kind.line;
    }

-- The line of a server that has made nothing, and wasn't one at the start, is the place of its join.
pub line-first : (greens : List Action) (m : Members) (base q : ℕ) → Each (λ a. a.id.creator ≡ q → ⊥) greens → was_ever m q ≡ false → is_server (after_greens m (suc base) greens) q ≡ true →
    line_of (after_greens m (suc base) greens).servers q ≡ join_from base greens q
line-first [] m base q apart none is = absurd (let clash : true ≡ false = sym (or_left (is_server m q) (has m.left q) is) ∙ none in cc)
line-first (a ∷ greens) m base q apart none is = elim (cases_Bool (joins q a.kind)) [
  | inl joined ↦
      let one = joins-green m (suc base) q a apart.0 joined none in
      (line-stays greens (after_green m (suc base) a) (suc base) q apart.1 one.ever is).line ∙ one.line ∙ sym (cond-true (joins q a.kind) (suc base) (join_from (suc base) greens q) joined)
  | inr other ↦
      let still : was_ever (after_green m (suc base) a) q ≡ false = false_from_ne_true (was_ever (after_green m (suc base) a) q)
      (λ y. elim (ever-green-back m (suc base) q a y) [ inl was ↦ (let clash : true ≡ false = sym was ∙ none in cc) | inr joined ↦ (let clash : true ≡ false = sym joined ∙ other in cc) ]) in
      line-first greens (after_green m (suc base) a) (suc base) q apart.1 still is ∙ sym (cond-false (joins q a.kind) (suc base) (join_from (suc base) greens q) other)
]

-- ---- no line falls, and a new one is above those before it

above-kind : (m : Members) (base w : ℕ) (kind : Kind) → w ≤ base → ((q : ℕ) → is_server m q ≡ true → w ≤ line_of m.servers q) → (q : ℕ) → is_server (after_kind m (suc base) kind) q ≡ true →
    w ≤ line_of (after_kind m (suc base) kind).servers q
above-kind m base w (Update cmds query) le above q = λ is. above q is
above-kind m base w (Join joiner weight) le above q =
    let new : Server = record { id = joiner; line = suc base; weight = weight } in
    cond_both (was_ever m joiner) m (record m { servers = with_server m.servers new }) (λ x. is_server x q ≡ true → w ≤ line_of x.servers q)
    (λ y is. above q is)
    (λ n is. subst (λ k. w ≤ k) (sym (line-with m.servers new q)) (cond_both (joiner == q) (suc base) (line_of m.servers q) (λ k. w ≤ k) (λ y. omega arith)
    (λ z. elim (among-with-back m.servers new q is) [ inl same ↦ absurd (let clash : true ≡ false = sym same ∙ z in cc) | inr there ↦ above q there ])))
above-kind m base w (Leave server) le above q =
    let gone : Members = record { servers = without_server m.servers server; left = with_member m.left server } in
    cond_both (is_server m server) gone m (λ x. is_server x q ≡ true → w ≤ line_of x.servers q)
    (λ y is. (let back = among-without-back m.servers server q is in subst (λ k. w ≤ k) (sym (line-without-other m.servers server q back.0)) (above q back.1)))
    (λ n is. above q is)

pub lines-above : (greens : List Action) (m : Members) (base w : ℕ) → w ≤ base → ((q : ℕ) → is_server m q ≡ true → w ≤ line_of m.servers q) → (q : ℕ) → is_server (after_greens m (suc base) greens) q ≡ true →
    w ≤ line_of (after_greens m (suc base) greens).servers q
lines-above [] m base w le above q is = above q is
lines-above (a ∷ greens) m base w le above q is =
    let behind = after_kind m (suc base) a.kind in
    lines-above greens (after_green m (suc base) a) (suc base) w (omega arith)
    (λ p there.
    let low = above-kind m base w a.kind le above p (sym (is_among-with_line behind.servers a.id.creator (min a.green_line (suc base)) p) ∙ there) in
    let up = line_of-raised behind.servers a.id.creator (min a.green_line (suc base)) p in
    omega arith) q is
