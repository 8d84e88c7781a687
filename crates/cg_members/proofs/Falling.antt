-- No line falls while its server stays.
use Rattle.std.proofs.Common.{◌≡◌, ℕ, ◌≤◌, ◌≢◌, List, [], ◌∷◌, cond, min, true, false, eqb, refl, sym, ap, ◌∙◌, arith, inl, inr}
use Rattle.std.proofs.lemmas.Bool.{cases_eq, cases_order, cases_Bool, eq-eqb, ne_eqb, lt-ltb, le-ltb, or_parts, true≢false}
use Rattle.cg_base.specs.Sets.{has}
use Rattle.cg_action.specs.declared.action.Kind.{Kind}
use Rattle.cg_action.specs.declared.action.Kind.TheVariants.{Update, Join, Leave}
use Rattle.cg_action.specs.declared.action.Action.{Action}
use Rattle.cg_members.specs.declared.server.Server.{Server}
use Rattle.cg_members.specs.Members.{Members}
use Rattle.cg_members.specs.Servers.{is_among, is_server, was_ever, with_server, without_server, with_joiner, departed, after_kind, after_green}
use Rattle.cg_members.specs.Listed.{line_of}
use Rattle.cg_members.specs.MemberLaws.{is_among-without, is_among-with_line, line_of-raised}

-- ---- the line of another

line_of-with_server : (servers : List Server) (new : Server) (q : ℕ) → new.id ≢ q → line_of (with_server servers new) q ≡ line_of servers q
line_of-with_server [] new q apart = rw (ne_eqb new.id q apart) refl
line_of-with_server (s ∷ servers) new q apart = elim (cases_order new.id s.id) [
  | inl same ↦ rw (eq-eqb new.id s.id same, ne_eqb new.id q apart, ne_eqb s.id q (λ e. apart (same ∙ e))) refl
  | inr other ↦ elim other [
    | inl front ↦ rw (ne_eqb new.id s.id (λ e. omega arith), lt-ltb new.id s.id front, ne_eqb new.id q apart) refl
    | inr later ↦
        rw (ne_eqb new.id s.id (λ e. omega arith), le-ltb new.id s.id (omega arith)) (ap (λ n. cond (eqb s.id q) s.line n) (line_of-with_server servers new q apart))
  ]
]

line_of-without : (servers : List Server) (p q : ℕ) → q ≢ p → line_of (without_server servers p) q ≡ line_of servers q
line_of-without [] p q apart = refl
line_of-without (s ∷ servers) p q apart = elim (cases_eq s.id p) [
  | inl same ↦ rw (eq-eqb s.id p same, ne_eqb s.id q (λ e. apart (sym e ∙ same))) (line_of-without servers p q apart)
  | inr stays ↦ rw (ne_eqb s.id p stays) (ap (λ n. cond (eqb s.id q) s.line n) (line_of-without servers p q apart))
]

-- ---- the law

joined-keeps : (m : Members) (p weight place q : ℕ) → is_server m q ≡ true → line_of m.servers q ≤ line_of (with_joiner m p weight place).servers q
joined-keeps m p weight place q is = elim (cases_Bool (was_ever m p)) [
  | inl was ↦ rw was (omega arith)
  | inr never ↦
      let apart : p ≢ q = λ e. true≢false (sym is ∙ (ap (λ (n : ℕ). is_server m n) (sym e) ∙ (or_parts (is_server m p) (has m.left p) never).0)) in
      let same = line_of-with_server m.servers (record { id = p; line = place; weight = weight }) q apart in
      rw never (omega (arith, same))
]

departed-keeps : (m : Members) (p q : ℕ) → is_server (departed m p) q ≡ true → line_of m.servers q ≤ line_of (departed m p).servers q
departed-keeps m p q stays = elim (cases_Bool (is_server m p)) [
  | inl there ↦
      let now : is_among (without_server m.servers p) q ≡ true = rw there at stays in
      let same = line_of-without m.servers p q (is_among-without m.servers p q now).1 in
      rw there (omega (arith, same))
  | inr away ↦ rw away (omega arith)
]

kind-keeps : (m : Members) (place : ℕ) (kind : Kind) (q : ℕ) → is_server m q ≡ true → is_server (after_kind m place kind) q ≡ true
    → line_of m.servers q ≤ line_of (after_kind m place kind).servers q
kind-keeps m place (Update cmds query) q is stays = omega arith
kind-keeps m place (Join joiner weight) q is stays = joined-keeps m joiner weight place q is
kind-keeps m place (Leave server) q is stays = departed-keeps m server q stays

pub never_fall : (m : Members) (place : ℕ) (a : Action) (p : ℕ) → is_server m p ≡ true → is_server (after_green m place a) p ≡ true
    → line_of m.servers p ≤ line_of (after_green m place a).servers p
never_fall m place a p is stays =
    let before = after_kind m place a.kind in
    let line = min a.green_line place in
    let kept = kind-keeps m place a.kind p is (sym (is_among-with_line before.servers a.id.creator line p) ∙ stays) in
    let raised = line_of-raised before.servers a.id.creator line p in
    omega (arith, kept, raised)
