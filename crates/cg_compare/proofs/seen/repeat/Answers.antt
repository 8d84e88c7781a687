use Rattle.std.proofs.Common.{◌≡◌, ◌∷◌, ◌++◌, ◌∙◌, ◌+◌, ◌<◌, [], Some, None, length, take, drop, if◌then◌else◌, sym, ap, arith}
use Rattle.std.proofs.lemmas.Bool.Decides.{nat_tests}
use Rattle.std.proofs.lemmas.List.{take_more, drop_more}
use Rattle.std.specs.BTreeMap.{get}
use Rattle.std.specs.Option.{option_copied}
use Rattle.std.specs.Ordering.{eq_by_cmp}
use Rattle.cg_base.specs.contracts.action_id.ActionIdOrd.TheImpl as order
use Rattle.cg_base.specs.declared.action_id.ActionId.{ActionId}
use Rattle.cg_base.specs.Ids.{same_id}
use Rattle.cg_compare.specs.declared.seen.Seen.{Seen}
use Rattle.cg_compare.specs.Seen.{place_among, repeat_after}
use Rattle.cg_compare.proofs.SeenBefore.{known_new, known_old, rest_new, rest_old}
use Rattle.cg_compare.proofs.seen.repeat.Goals as goal
use Rattle.cg_compare.proofs.seen.repeat.Goals.{in-None+in_ok-insert-in-None, in-Some+else-place-s}

same : (a b : ActionId) → eq_by_cmp order.ghosts.cmp a b ≡ same_id b a
same a b = grind (arith, nat_tests)

pub loop-s-preserved : goal.loop-s-preserved
loop-s-preserved c =
    let names = c.args.names.now in
    let i = c.loop-s.s-index in
    let s = c.s-item.result in
    let old = c.loop-s.places in
    let kept = c.loop-s.invariant in
    let within : i < length names = omega (arith, c.loop-s-test.true) in
    let taken : take (i + 1) names ≡ take i names ++ s ∷ [] =
    take_more names i s within ∙ ap (λ (x : Seen). take i names ++ x ∷ []) (sym c.s-item.is) in
    let left : drop i names ≡ s ∷ drop (i + 1) names =
    drop_more names i s within ∙ ap (λ (x : Seen). x ∷ drop (i + 1) names) (sym c.s-item.is) in
    let more = drop (i + 1) names in
    elim c.match-get.branch [
      | in-None+in_ok-insert-in-None w ↦
          let none : place_among (take i names) s.id ≡ None =
          sym (kept.known s.id) ∙ sym c.get.ensures.value ∙ ap option_copied w.in-None.is in
          record {
            known = λ id. ap (λ m. get order.ghosts.cmp m id) w.places-is
                ∙ known_new (take i names) s (get order.ghosts.cmp old) (get order.ghosts.cmp w.insert.new.self) kept.known none
                (λ q. w.in_ok-insert-in-None.ensures.updates.0 q
                ∙ ap (λ b. if b then Some s.place else get order.ghosts.cmp old q) (same s.id q)) id
                ∙ ap (λ ns. place_among ns id) (sym taken);
            rest = ap (λ ns. repeat_after ns more) taken ∙ rest_new (take i names) s more none
                ∙ ap (repeat_after (take i names)) (sym left) ∙ kept.rest;
          }
      | in-Some+else-place-s w ↦
          let some : place_among (take i names) s.id ≡ Some w.in-Some.place.now =
          sym (kept.known s.id) ∙ sym c.get.ensures.value ∙ ap option_copied w.in-Some.is in
          record {
            known = λ id. ap (λ m. get order.ghosts.cmp m id) w.places-is
                ∙ known_old (take i names) s (get order.ghosts.cmp old) w.in-Some.place.now kept.known some id
                ∙ ap (λ ns. place_among ns id) (sym taken);
            rest = ap (λ ns. repeat_after ns more) taken ∙ rest_old (take i names) s more w.in-Some.place.now some w.if-place-s.false
                ∙ ap (repeat_after (take i names)) (sym left) ∙ kept.rest;
          }
    ]
