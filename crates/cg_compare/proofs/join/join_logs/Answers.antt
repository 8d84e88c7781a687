use Rattle.std.proofs.Common.{◌≡◌, ◌∙◌, [], List, Some, None, sym, ap, subst}
use Rattle.cg_compare.specs.declared.log.Joined.TheVariants.{Agree}
use Rattle.cg_compare.specs.declared.log.Joined.{Joined}
use Rattle.cg_compare.specs.declared.log.Log.{Log}
use Rattle.cg_compare.specs.Join.{join_logs}
use Rattle.cg_compare.specs.Orders.{IsTold}
use Rattle.cg_compare.specs.Seen.{ArePlaced, difference_among, repeat_after, covered_above}
use Rattle.cg_compare.proofs.Agreeing as agreeing
use Rattle.cg_compare.proofs.PlacedList.{when_differ, when_twice, when_agree}
use Rattle.cg_compare.proofs.join.join_logs.Goals as goal

told_of : (logs : List Log) (j : Joined) → j ≡ join_logs logs → IsTold logs j
told_of logs j is = subst (IsTold logs) (sym is) (agreeing.joins_are_told logs)

pub returns-in-Some : goal.returns-in-Some
returns-in-Some c =
    let logs = c.args.logs.now in
    let names = c.in_ok-names.names.items in
    let placed : ArePlaced logs names = subst (λ l. ArePlaced l names) c.as_slice.ensures c.in_ok-names.ensures in
    let found : difference_among names ≡ Some c.in-Some.found =
    ap difference_among (sym c.as_slice-names.ensures.value) ∙ sym c.difference.ensures ∙ c.in-Some.is in
    let is = when_differ logs names c.in-Some.found placed found in
    record { value = is; told = told_of logs c.in-Some.found is }

pub returns-in-Some-2 : goal.returns-in-Some-2
returns-in-Some-2 c =
    let logs = c.args.logs.now in
    let names = c.in_ok-names.names.items in
    let placed : ArePlaced logs names = subst (λ l. ArePlaced l names) c.as_slice.ensures c.in_ok-names.ensures in
    let none : difference_among names ≡ None =
    ap difference_among (sym c.as_slice-names.ensures.value) ∙ sym c.difference.ensures ∙ c.in_default.is in
    let found : repeat_after [] names ≡ Some c.in-Some-2.found =
    ap (repeat_after []) (sym c.as_slice-names.ensures.value) ∙ sym c.in_ok-found.ensures ∙ c.in-Some-2.is in
    let is = when_twice logs names c.in-Some-2.found placed none found in
    record { value = is; told = told_of logs c.in-Some-2.found is }

pub returns : goal.returns
returns c =
    let logs = c.args.logs.now in
    let names = c.in_ok-names.names.items in
    let list = c.in_ok-list.list in
    let placed : ArePlaced logs names = subst (λ l. ArePlaced l names) c.as_slice.ensures c.in_ok-names.ensures in
    let none : difference_among names ≡ None =
    ap difference_among (sym c.as_slice-names.ensures.value) ∙ sym c.difference.ensures ∙ c.in_default.is in
    let once : repeat_after [] names ≡ None =
    ap (repeat_after []) (sym c.as_slice-names.ensures.value) ∙ sym c.in_ok-found.ensures ∙ c.in_default-2.is in
    let whole : list ≡ covered_above 0 names =
    c.in_ok-list.ensures ∙ ap (covered_above 0) c.as_slice-names.ensures.value in
    let is : Agree c.len.result list ≡ join_logs logs =
    ap (λ n. Agree n list) c.len.ensures ∙ when_agree logs names list placed none once whole in
    record { value = is; told = told_of logs (Agree c.len.result list) is }
