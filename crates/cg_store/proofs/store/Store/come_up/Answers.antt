use Rattle.std.proofs.Common.{Ok, Err, refl, sym, subst}
use Rattle.cg_store.specs.Formats.{with_format}
use Rattle.cg_store.specs.ComingUp.{ComesUp, move_fault}
use Rattle.cg_store.specs.Settling.{disk_found}
use Rattle.cg_store.proofs.Opened.{found_stands, store_of, settling_fails}
use Rattle.cg_store.proofs.store.Store.come_up.Goals as goal

pub invariant_of-store : goal.invariant_of-store
invariant_of-store g c =
    let f = c.args.found in
    let h = c.requires.found in
    let old = g.D.Disk.view c.args.journal in
    let s = with_format old.reads h.on (disk_found f h.size) in
    let is = c.in-Ok.ensures.ends s (found_stands f c.args.a c.args.b old h) in
    store_of g.D.Disk.view f s.format h.size c.args.id old c.in-Ok.settled is c.requires.owner c.requires.values c.in-Ok.ensures.small

pub returns-in-Ok : goal.returns-in-Ok
returns-in-Ok g c =
    let f = c.args.found in
    let h = c.requires.found in
    let view = g.D.Disk.view in
    let old = view c.args.journal in
    let s = with_format old.reads h.on (disk_found f h.size) in
    let stands = found_stands f c.args.a c.args.b old h in
    let is = c.in-Ok.ensures.ends s stands in
    subst (λ n. ComesUp view n c.args.journal (Ok (record { disk = c.in-Ok.settled.journal; id = c.args.id; unwritten = c.new.result }, f.core))) c.requires.owner
    (record {
      standing = s;
      stands = stands;
      core_is = refl;
      sound = h.sound;
      owner = refl;
      id_is = sym c.requires.owner;
      unwritten = c.new.ensures;
      reached = is.reached;
      moments = is.moments;
    })

pub returns-in-Err : goal.returns-in-Err
returns-in-Err g c =
    let f = c.args.found in
    let h = c.requires.found in
    let view = g.D.Disk.view in
    let old = view c.args.journal in
    let s = with_format old.reads h.on (disk_found f h.size) in
    let stands = found_stands f c.args.a c.args.b old h in
    subst (λ x. ComesUp view c.args.id c.args.journal (Err x)) (sym c.move_fault.ensures)
    (subst (λ n. ComesUp view n c.args.journal (Err (move_fault c.in-Err.fault))) c.requires.owner (settling_fails view f.core.id s c.args.journal c.in-Err.fault stands (c.in-Err.ensures.ends s stands)))
