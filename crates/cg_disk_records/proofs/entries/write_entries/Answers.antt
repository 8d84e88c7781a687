use Rattle.std.proofs.Common.{◌≡◌, ℕ, List, ◌++◌, length, take, sym, ap, subst, ◌∙◌, arith}
use Rattle.std.proofs.lemmas.List.{take_all}
use Rattle.std.specs.List.{flat_map}
use Rattle.cg_base.specs.TextLaws.{OnErr_from, grown_twice}
use Rattle.cg_codec.specs.Fields.{number32}
use Rattle.cg_action.specs.ActionLimits.{IsKey}
use Rattle.cg_db.specs.Map.{keys, value_of}
use Rattle.cg_db.specs.View.{entry_at}
use Rattle.cg_base.specs.Lists.{Each}
use Rattle.cg_disk_records.specs.Checkpoint.{spelled_entry}
use Rattle.cg_disk_records.proofs.Steps.{keeps_after}
use Rattle.cg_disk_records.specs.ListLaws.{Each-at}
use Rattle.cg_disk_records.proofs.EntryFields.{keys-within, written-all}
use Rattle.cg_disk_records.proofs.entries.write_entries.Goals as goal

pub write_entry-requires-clause-key : goal.write_entry-requires-clause-key
write_entry-requires-clause-key c =
    let db = c.args.db.now in
    let all = c.as_slice-key-items.result.now in
    let same : all ≡ keys db = c.as_slice-key-items.ensures ∙ c.in_ok-keys.ensures in
    let within : Each IsKey all = rw same (keys-within db c.requires.entries) in
    subst IsKey (sym c.key-item.is) (Each-at IsKey all c.loop-key.key-index c.key-item.result within (omega arith))

pub returns-in_err-write_entry-clause-err : goal.returns-in_err-write_entry-clause-err
returns-in_err-write_entry-clause-err c =
    let written = λ (key : List ℕ). flat_map spelled_entry (entry_at key (value_of c.args.db.now key)) in
    let some = flat_map written (take c.loop-key.key-index c.as_slice-key-items.result.now) in
    let number = number32 c.count.result in
    OnErr_from c.from_residual-in_err-write_entry.result
    (keeps_after c.args.out.now.items (number ++ some) c.loop-key.out.items c.write_entry.new.out.items
    (grown_twice c.args.out.now.items number c.put_u32.new.out.items some c.loop-key.out.items c.in_ok-put_u32.ensures.ok c.loop-key.invariant) c.in_err-write_entry.ensures.err)

pub returns-clause-ok : goal.returns-clause-ok
returns-clause-ok c =
    let db = c.args.db.now in
    let same : c.as_slice-key-items.result.now ≡ keys db = c.as_slice-key-items.ensures ∙ c.in_ok-keys.ensures in
    let every : take c.loop-key.key-index c.as_slice-key-items.result.now ≡ c.as_slice-key-items.result.now = take_all c.loop-key.key-index c.as_slice-key-items.result.now (omega arith) in
    let written = λ (key : List ℕ). flat_map spelled_entry (entry_at key (value_of db key)) in
    let all : c.loop-key.out.items ≡ c.put_u32.new.out.items ++ flat_map spelled_entry db =
    c.loop-key.invariant ∙ ap (λ ks. c.put_u32.new.out.items ++ flat_map written ks) (every ∙ same) ∙ ap (λ es. c.put_u32.new.out.items ++ es) (written-all db c.holds.ensures) in
    let counted : number32 c.count.result ≡ number32 (length db) = ap number32 c.count.ensures in
    rw (← counted) (grown_twice c.args.out.now.items (number32 c.count.result) c.put_u32.new.out.items (flat_map spelled_entry db) c.loop-key.out.items c.in_ok-put_u32.ensures.ok all)
