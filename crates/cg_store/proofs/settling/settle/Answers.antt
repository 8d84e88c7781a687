use Rattle.std.proofs.Common.{◌≡◌, ◌≢◌, refl, sym, ◌∙◌, ap, subst, rules}
use Rattle.cg_disk.specs.Sides.{opposite}
use Rattle.cg_journal.specs.Found.{found_at, front_on}
use Rattle.cg_store.specs.Settling.{disk_found, IsSettled, Settles}
use Rattle.cg_store.proofs.Clearing.{across_back}
use Rattle.cg_store.proofs.Versions.{in_use_newer, sides_newer_too}
use Rattle.cg_store.proofs.Settled.{version_by_side, standing_is, lacks, newer_with, clears_now, behind_clearing, settled_now}
use Rattle.cg_store.proofs.settling.settle.Goals as goal

pub clear_other-requires-clause-newer : goal.clear_other-requires-clause-newer
clear_other-requires-clause-newer g c =
    let at = c.requires.found in
    let found = c.args.found.now in
    let u = disk_found found at.size in
    let old = g.D.Disk.view c.args.journal in
    let here : (found_at found.side at.on).version ≡ c.at_side-version.result = version_by_side found.side at.on c.args.a c.args.b at.version_a at.version_b ∙ sym c.at_side-version.ensures in
    let not_one : c.at_side-version.result ≢ 1 = search rules in
    record { on = at.on; found = at.used.found; version_is = in_use_newer found.core.id old.reads at.on u found.side at.used.found at.used.stands refl (λ one. not_one (sym here ∙ one)) }

pub returns-then-at_side-ne2-clause-ends : goal.returns-then-at_side-ne2-clause-ends
returns-then-at_side-ne2-clause-ends g c = λ t stands.
    let at = c.requires.found in
    let found = c.args.found.now in
    let id = found.core.id in
    let u = disk_found found at.size in
    let view = g.D.Disk.view in
    let old = view c.args.journal in
    let side = c.other.result in
    let on : u.side ≡ opposite side = across_back found.side found.side side refl c.other.ensures in
    let here : (found_at found.side at.on).version ≡ c.at_side-version.result = version_by_side found.side at.on c.args.a c.args.b at.version_a at.version_b ∙ sym c.at_side-version.ensures in
    let there : (found_at side at.on).version ≡ c.at_side.result = version_by_side side at.on c.args.a c.args.b at.version_a at.version_b ∙ sym c.at_side.ensures in
    let not_one : c.at_side-version.result ≢ 1 = search rules in
    let not_two : c.at_side.result ≢ 2 = search rules in
    let used_newer = in_use_newer id old.reads at.on u found.side at.used.found at.used.stands refl (λ one. not_one (sym here ∙ one)) in
    let version : (found_at (opposite side) at.on).version ≡ 2 = ap (λ x. (found_at x at.on).version) (sym on) ∙ used_newer in
    let bare = lacks side old.reads at.on at.used.found (λ two. not_two (sym there ∙ two)) in
    subst (λ x. Settles view id x old c.clear_other.result)
    (standing_is id old.reads at.on u side 2 at.used.found at.used.stands on version t stands)
    (behind_clearing view id u (front_on side old.reads) old c.clear_other.result bare
    (c.clear_other.ensures.clears id 5 _ _ _ (clears_now id at.on u old side at.used on version bare) refl) c.clear_other.ensures.kept)

pub into_journal-requires : goal.into_journal-requires
into_journal-requires g c =
    let at = c.requires.found in
    let found = c.args.found.now in
    let u = disk_found found at.size in
    let old = g.D.Disk.view c.args.journal in
    let side = c.other.result in
    let on : u.side ≡ opposite side = across_back found.side found.side side refl c.other.ensures in
    let here : (found_at found.side at.on).version ≡ c.at_side-version.result = version_by_side found.side at.on c.args.a c.args.b at.version_a at.version_b ∙ sym c.at_side-version.ensures in
    let there : (found_at side at.on).version ≡ c.at_side.result = version_by_side side at.on c.args.a c.args.b at.version_a at.version_b ∙ sym c.at_side.ensures in
    let not_one : c.at_side-version.result ≢ 1 = search rules in
    let two : c.at_side.result ≡ 2 = search rules in
    let used_newer = in_use_newer found.core.id old.reads at.on u found.side at.used.found at.used.stands refl (λ one. not_one (sym here ∙ one)) in
    record { all = _; read = sides_newer_too side old.reads at.on at.used.found (there ∙ two) (ap (λ x. (found_at x at.on).version) (sym on) ∙ used_newer) }

pub returns-clause-ends : goal.returns-clause-ends
returns-clause-ends g c = λ t stands.
    let at = c.requires.found in
    let found = c.args.found.now in
    let id = found.core.id in
    let u = disk_found found at.size in
    let view = g.D.Disk.view in
    let old = view c.args.journal in
    let side = c.other.result in
    let on : u.side ≡ opposite side = across_back found.side found.side side refl c.other.ensures in
    let here : (found_at found.side at.on).version ≡ c.at_side-version.result = version_by_side found.side at.on c.args.a c.args.b at.version_a at.version_b ∙ sym c.at_side-version.ensures in
    let there : (found_at side at.on).version ≡ c.at_side.result = version_by_side side at.on c.args.a c.args.b at.version_a at.version_b ∙ sym c.at_side.ensures in
    let not_one : c.at_side-version.result ≢ 1 = search rules in
    let two : c.at_side.result ≡ 2 = search rules in
    let used_newer = in_use_newer id old.reads at.on u found.side at.used.found at.used.stands refl (λ one. not_one (sym here ∙ one)) in
    let version : (found_at (opposite side) at.on).version ≡ 2 = ap (λ x. (found_at x at.on).version) (sym on) ∙ used_newer in
    subst (λ x. IsSettled view id x old (record { journal = c.into_journal.result; side = found.side; generation = found.generation }))
    (standing_is id old.reads at.on u side 2 at.used.found at.used.stands on version t stands)
    (subst (λ j. IsSettled view id (newer_with u (front_on side old.reads)) old (record { journal = j; side = found.side; generation = found.generation })) (sym c.into_journal.ensures)
    (settled_now view id at.on u c.args.journal side (g.met.D.Disk.is_view c.args.journal) at.used on version (there ∙ two)))
