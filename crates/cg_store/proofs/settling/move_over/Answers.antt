use Rattle.std.proofs.Common.{◌≡◌, suc, ◌+◌, Err, refl, sym, ◌∙◌, ap, subst, arith}
use Rattle.cg_disk.specs.Sides.{opposite}
use Rattle.cg_journal.specs.Found.{found_at}
use Rattle.cg_disk_records.specs.Parts.{checkpoint_in}
use Rattle.cg_store.specs.Settling.{disk_found, Settles}
use Rattle.cg_store.proofs.Clearing.{across, across_back}
use Rattle.cg_store.proofs.MovingOver.{may_renew, clears_then, newer_then, moments_then}
use Rattle.cg_store.proofs.Settled.{standing_is, behind_renewal, renewal_fails}
use Rattle.cg_store.proofs.settling.move_over.Goals as goal

pub clear_other-requires-clause-newer : goal.clear_other-requires-clause-newer
clear_other-requires-clause-newer g c =
    let at = c.requires.older in
    let found = c.args.found.now in
    let u = disk_found found at.size in
    let side = c.other-spare.result in
    let old = g.D.Disk.view c.args.journal in
    let new = g.D.Disk.view c.in-Ok-renew.journal in
    let body = c.deref.result.now in
    let on : u.side ≡ opposite side = across_back found.side found.side side refl c.other-spare.ensures in
    let version : (found_at (opposite side) at.on).version ≡ 1 = ap (λ x. (found_at x at.on).version) (sym on) ∙ at.version_is in
    let spelled = c.deref.ensures.value ∙ c.in-Ok.ensures.spelled in
    let saved = ap (checkpoint_in found.core.id) c.deref.ensures.value ∙ c.in-Ok.ensures.saved in
    let go = may_renew found.core.id at.on u old new side body at.used on version spelled saved in
    newer_then found.core.id at.on u old new side body at.used on version spelled saved (c.in-Ok-renew.ensures.ends at.on go)

pub returns-in-Ok-renew-clause-ends : goal.returns-in-Ok-renew-clause-ends
returns-in-Ok-renew-clause-ends g c = λ t stands.
    let at = c.requires.older in
    let found = c.args.found.now in
    let id = found.core.id in
    let u = disk_found found at.size in
    let side = c.other-spare.result in
    let view = g.D.Disk.view in
    let old = view c.args.journal in
    let new = view c.in-Ok-renew.journal in
    let body = c.deref.result.now in
    let on : u.side ≡ opposite side = across_back found.side found.side side refl c.other-spare.ensures in
    let version : (found_at (opposite side) at.on).version ≡ 1 = ap (λ x. (found_at x at.on).version) (sym on) ∙ at.version_is in
    let spelled = c.deref.ensures.value ∙ c.in-Ok.ensures.spelled in
    let saved = ap (checkpoint_in id) c.deref.ensures.value ∙ c.in-Ok.ensures.saved in
    let go = may_renew id at.on u old new side body at.used on version spelled saved in
    let done = c.in-Ok-renew.ensures.ends at.on go in
    let run = moments_then id at.on u old new side body at.used on version spelled saved (c.in-Ok-renew.ensures.moments at.on go) in
    let ready = clears_then id at.on u old new side body at.used on version spelled saved done in
    let next : found.generation + 1 ≡ suc found.generation = omega arith in
    subst (λ x. Settles view id x old c.clear_other.result)
    (standing_is id old.reads at.on u side 1 at.used.found at.used.stands on version t stands)
    (behind_renewal view id u side on old new (found.generation + 1) c.clear_other.result done.unstruck done.time run next
    (c.clear_other.ensures.clears id 12 _ _ _ ready (across u.side side on)) c.clear_other.ensures.kept)

pub returns-clause-ends : goal.returns-clause-ends
returns-clause-ends g c = λ t stands.
    let at = c.requires.older in
    let found = c.args.found.now in
    let id = found.core.id in
    let u = disk_found found at.size in
    let side = c.other-spare.result in
    let view = g.D.Disk.view in
    let old = view c.args.journal in
    let body = c.deref.result.now in
    let on : u.side ≡ opposite side = across_back found.side found.side side refl c.other-spare.ensures in
    let version : (found_at (opposite side) at.on).version ≡ 1 = ap (λ x. (found_at x at.on).version) (sym on) ∙ at.version_is in
    let spelled = c.deref.ensures.value ∙ c.in-Ok.ensures.spelled in
    let saved = ap (checkpoint_in id) c.deref.ensures.value ∙ c.in-Ok.ensures.saved in
    subst (λ x. Settles view id x old (Err c.in-Err-renew.fault))
    (standing_is id old.reads at.on u side 1 at.used.found at.used.stands on version t stands)
    (renewal_fails view id at.on u old side body at.used on version spelled saved c.in-Err-renew.fault c.in-Err-renew.ensures.ends c.in-Err-renew.ensures.moments)
