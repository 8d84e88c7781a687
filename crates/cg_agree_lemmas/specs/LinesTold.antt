-- The line of a server is no higher than what it told, where its actions and its join are no higher: by the greens of another member.
use Rattle.std.proofs.Common.{◌≡◌, ℕ, suc, ◌≤◌, Bool, true, false, cond, not, ◌||◌, ◌⊎◌, inl, inr, List, [], ◌∷◌, map, min, max, refl, sym, ap, subst, ◌∙◌, ⊎_elim, arith, eqb-true, eq-eqb, if◌then◌else◌, nat_lt}
use Rattle.std.specs.Prelude.{◌==◌}
use Rattle.std.proofs.lemmas.Bool.{cases_Bool, cond-true, cond-false, cond_both, or_left, or_right}
use Rattle.cg_base.specs.declared.weighted.Weighted.{Weighted}
use Rattle.cg_base.specs.Sets.{has, with_member}
use Rattle.cg_action.specs.declared.action.Action.{Action}
use Rattle.cg_action.specs.declared.action.Kind.{Kind}
use Rattle.cg_action.specs.declared.action.Kind.TheVariants.{Update, Join, Leave}
use Rattle.cg_members.specs.declared.server.Server.{Server}
use Rattle.cg_members.specs.Members.{Members}
use Rattle.cg_members.specs.Listed.{line_of}
use Rattle.cg_members.specs.Servers.{is_among, is_server, was_ever, first_line, with_server, without_server, with_line, starting, after_kind, after_green, after_greens, members_of}
use Rattle.cg_model.specs.Chronicle.{Told}
use Rattle.cg_model.specs.Fronts.{When}
use Rattle.cg_model.specs.FactsExchange.{AreReached, HasReached}
use Rattle.cg_model.specs.FactsReplica.{joins, join_from}
use Rattle.cg_agree_lemmas.specs.EverServer.{ever-green}
use Rattle.cg_members.specs.MemberLaws.{is_among-with_line}

-- ---- one line

pub line-with : (servers : List Server) (new : Server) (q : ℕ) → line_of (with_server servers new) q ≡ cond (new.id == q) new.line (line_of servers q)
line-with [] new q = refl
line-with (s ∷ servers) new q =
    cond_both (new.id == s.id) (new ∷ servers) (if nat_lt new.id s.id then new ∷ s ∷ servers else s ∷ with_server servers new) (λ xs. line_of xs q ≡ cond (new.id == q) new.line (line_of (s ∷ servers) q))
    (λ y. same (new.id == q) (s.id == q) (ap (λ i. i == q) (sym (eqb-true new.id s.id y))) new.line s.line (line_of servers q))
    (λ n. cond_both (nat_lt new.id s.id) (new ∷ s ∷ servers) (s ∷ with_server servers new) (λ xs. line_of xs q ≡ cond (new.id == q) new.line (line_of (s ∷ servers) q))
    (λ y. refl)
    (λ m. ap (cond (s.id == q) s.line) (line-with servers new q) ∙ apart (new.id == q) (s.id == q) (λ a b. (let clash : true ≡ false = sym (eq-eqb new.id s.id (eqb-true new.id q a ∙ sym (eqb-true s.id q b))) ∙ n in cc)) new.line s.line (line_of servers q))) where
      same : (a b : Bool) → b ≡ a → (x y z : ℕ) → cond a x z ≡ cond a x (cond b y z)
      same true b e x y z = refl
      same false b e x y z = sym (cond-false b y z e)

      apart : (a b : Bool) → (a ≡ true → b ≡ true → ⊥) → (x y z : ℕ) → cond b y (cond a x z) ≡ cond a x (cond b y z)
      apart true true no' x y z = absurd (no' refl refl)
      apart true false no' x y z = refl
      apart false b no' x y z = refl

line-without : (servers : List Server) (p q : ℕ) → line_of (without_server servers p) q ≤ line_of servers q
line-without [] p q = omega arith
line-without (s ∷ servers) p q =
    let rest = line-without servers p q in
    cond_both (not (s.id == p)) (s ∷ without_server servers p) (without_server servers p) (λ xs. line_of xs q ≤ line_of (s ∷ servers) q)
    (λ y. cond_both (s.id == q) s.line (line_of (without_server servers p) q) (λ n. n ≤ cond (s.id == q) s.line (line_of servers q))
    (λ z. subst (λ n. s.line ≤ n) (sym (cond-true (s.id == q) s.line (line_of servers q) z)) (omega arith))
    (λ z. subst (λ n. line_of (without_server servers p) q ≤ n) (sym (cond-false (s.id == q) s.line (line_of servers q) z)) rest))
    (λ n. cond_both (s.id == q) s.line (line_of servers q) (λ k. line_of (without_server servers p) q ≤ k)
    (λ z. subst (λ k. k ≤ s.line) (sym (gone servers p q (sym (eqb-true s.id q z) ∙ eqb-true s.id p (is-true (s.id == p) n)))) (omega arith)) (λ z. rest)) where
      is-true : (b : Bool) → not b ≡ false → b ≡ true
      is-true true e = refl
      is-true false e = absurd (let clash : true ≡ false = e in cc)

      gone : (xs : List Server) (p q : ℕ) → q ≡ p → line_of (without_server xs p) q ≡ 0
      gone [] p q e = refl
      gone (x ∷ xs) p q e =
          cond_both (not (x.id == p)) (x ∷ without_server xs p) (without_server xs p) (λ ys. line_of ys q ≡ 0)
          (λ y. cond-false (x.id == q) x.line (line_of (without_server xs p) q) (ap (λ i. x.id == i) e ∙ is-false (x.id == p) y) ∙ gone xs p q e) (λ n. gone xs p q e) where
            is-false : (b : Bool) → not b ≡ true → b ≡ false
            is-false true e = absurd (let clash : false ≡ true = e in cc)
            is-false false e = refl

line-raised : (servers : List Server) (p line q count : ℕ) → (p ≡ q → line ≤ count) → line_of servers q ≤ count → line_of (map (with_line p line) servers) q ≤ count
line-raised [] p line q count own le = le
line-raised (s ∷ servers) p line q count own le =
    let new : Server = record s { line = max s.line line } in
    cond_both (s.id == p) new s (λ x. line_of (x ∷ map (with_line p line) servers) q ≤ count)
    (λ y. cond_both (s.id == q) (max s.line line) (line_of (map (with_line p line) servers) q) (λ n. n ≤ count)
    (λ z. (let here : s.line ≤ count = subst (λ n. n ≤ count) (cond-true (s.id == q) s.line (line_of servers q) z) le in
    let low = own (sym (eqb-true s.id p y) ∙ eqb-true s.id q z) in omega arith))
    (λ z. line-raised servers p line q count own (subst (λ n. n ≤ count) (cond-false (s.id == q) s.line (line_of servers q) z) le)))
    (λ n. cond_both (s.id == q) s.line (line_of (map (with_line p line) servers) q) (λ n. n ≤ count)
    (λ z. subst (λ n. n ≤ count) (cond-true (s.id == q) s.line (line_of servers q) z) le)
    (λ z. line-raised servers p line q count own (subst (λ n. n ≤ count) (cond-false (s.id == q) s.line (line_of servers q) z) le)))

-- ---- behind greens

-- a member is known already, or its first join is no higher
abbrev pub JoinsBelow : Members → ℕ → List Action → ℕ → ℕ → Type 0
JoinsBelow m base greens q count = (was_ever m q ≡ true) ⊎ (join_from base greens q ≤ count)

kind-below : (m : Members) (base q count : ℕ) (a : Action) (greens : List Action) → JoinsBelow m base (a ∷ greens) q count → line_of m.servers q ≤ count → line_of (after_kind m (suc base) a.kind).servers q ≤ count
kind-below m base q count a greens below le = at a.kind refl where
  at : (kind : Kind) → a.kind ≡ kind → line_of (after_kind m (suc base) kind).servers q ≤ count
  at (Update cmds query) is = le
  at (Leave server) is =
      cond_both (is_server m server) (record m { servers = without_server m.servers server; left = with_member m.left server }) m (λ x. line_of x.servers q ≤ count)
      (λ y. (let less = line-without m.servers server q in omega arith)) (λ n. le)
  at (Join joiner weight) is =
      let new : Server = record { id = joiner; line = suc base; weight = weight } in
      cond_both (was_ever m joiner) m (record m { servers = with_server m.servers new }) (λ x. line_of x.servers q ≤ count) (λ y. le)
      (λ n. subst (λ k. k ≤ count) (sym (line-with m.servers new q)) (cond_both (joiner == q) (suc base) (line_of m.servers q) (λ k. k ≤ count)
      (λ y. ⊎_elim
      (λ was. absurd (let clash : true ≡ false = sym was ∙ ap (was_ever m) (sym (eqb-true joiner q y)) ∙ n in cc))
      (λ first. subst (λ k. k ≤ count) (cond-true (joins q a.kind) (suc base) (join_from (suc base) greens q) (ap (joins q) is ∙ y)) first)
      below)
      (λ z. le)))

below-next : (m : Members) (base q count : ℕ) (a : Action) (greens : List Action) → JoinsBelow m base (a ∷ greens) q count → JoinsBelow (after_green m (suc base) a) (suc base) greens q count
below-next m base q count a greens (inl was) = inl (ever-green m (suc base) q a was)
below-next m base q count a greens (inr le) = ⊎_elim
    (λ y. inl (raised-ever m base q a (joined-ever a.kind y)))
    (λ n. inr (subst (λ k. k ≤ count) (cond-false (joins q a.kind) (suc base) (join_from (suc base) greens q) n) le))
    (cases_Bool (joins q a.kind)) where
      joined-ever : (kind : Kind) → joins q kind ≡ true → was_ever (after_kind m (suc base) kind) q ≡ true
      joined-ever (Join joiner weight) y =
          let new : Server = record { id = joiner; line = suc base; weight = weight } in
          cond_both (was_ever m joiner) m (record m { servers = with_server m.servers new }) (λ x. was_ever x q ≡ true)
          (λ was. ap (was_ever m) (sym (eqb-true joiner q y)) ∙ was)
          (λ n. or_left (is_server (record m { servers = with_server m.servers new }) q) (has m.left q) (among-new m.servers new q y))
        where
          among-new : (servers : List Server) (new : Server) (q : ℕ) → (new.id == q) ≡ true → is_among (with_server servers new) q ≡ true
          among-new [] new q y = or_left (new.id == q) false y
          among-new (s ∷ servers) new q y =
              cond_both (new.id == s.id) (new ∷ servers) (if nat_lt new.id s.id then new ∷ s ∷ servers else s ∷ with_server servers new) (λ xs. is_among xs q ≡ true)
              (λ z. or_left (new.id == q) (is_among servers q) y)
              (λ z. cond_both (nat_lt new.id s.id) (new ∷ s ∷ servers) (s ∷ with_server servers new) (λ xs. is_among xs q ≡ true)
              (λ w. or_left (new.id == q) ((s.id == q) || is_among servers q) y)
              (λ w. or_right (s.id == q) (is_among (with_server servers new) q) (among-new servers new q y)))
      joined-ever (Update cmds query) y = absurd (let clash : false ≡ true = y in cc)
      joined-ever (Leave server) y = absurd (let clash : false ≡ true = y in cc)

      raised-ever : (m : Members) (base q : ℕ) (a : Action) → was_ever (after_kind m (suc base) a.kind) q ≡ true → was_ever (after_green m (suc base) a) q ≡ true
      raised-ever m base q a was =
          let behind = after_kind m (suc base) a.kind in
          ap (λ b. b || has behind.left q) (is_among-with_line behind.servers a.id.creator (min a.green_line (suc base)) q) ∙ was

pub greens-below : (greens : List Action) (m : Members) (base q count : ℕ) → JoinsBelow m base greens q count → AreReached q count greens → line_of m.servers q ≤ count →
    line_of (after_greens m (suc base) greens).servers q ≤ count
greens-below [] m base q count below reached le = le
greens-below (a ∷ greens) m base q count below reached le =
    greens-below greens (after_green m (suc base) a) (suc base) q count (below-next m base q count a greens below) reached.1
    (line-raised (after_kind m (suc base) a.kind).servers a.id.creator (min a.green_line (suc base)) q count
    (λ own. (let low : a.green_line ≤ count = mine (a.id.creator == q) (eq-eqb a.id.creator q own) reached.0 in omega arith))
    (kind-below m base q count a greens below le)) where
      mine : (b : Bool) → b ≡ true → When b (a.green_line ≤ count) → a.green_line ≤ count
      mine true e low = low
      mine false e low = absurd (let clash : false ≡ true = e in cc)

pub first-lines : (set : List Weighted) (q : ℕ) → line_of (map first_line set) q ≡ 0
first-lines [] q = refl
first-lines (w ∷ set) q = cond_both (w.id == q) 0 (line_of (map first_line set) q) (λ n. n ≡ 0) (λ y. refl) (λ n. first-lines set q)

pub joins-below : (start : List Weighted) (by of : Told) → HasReached start by of → JoinsBelow (starting start) 0 by.greens of.summary.id of.summary.green_count
joins-below start by of reached = ⊎_elim inl (λ none. inr (reached.joined none)) (cases_Bool (was_ever (starting start) of.summary.id))

-- the line of one that told, by the greens of another that told
pub line-told : (start : List Weighted) (by of : Told) → HasReached start by of →
    line_of (members_of start by.greens).servers of.summary.id ≤ of.summary.green_count
line-told start by of reached =
    greens-below by.greens (starting start) 0 of.summary.id of.summary.green_count (joins-below start by of reached) reached.lines
    (let none = first-lines start of.summary.id in omega arith)
