use Rattle.std.proofs.Common.{◌≡◌, [], ◌++◌, map, ap}
use Rattle.serde_json.specs.Data.{string}
use Rattle.serde_json.specs.View.{view}
use Rattle.cg_report.specs.LineText.{line_text}
use Rattle.cg_report.specs.EntryText.{made_text, order_text, reply_text, shown_text}
use Rattle.cg_json.proofs.Appended.{next_part}
use Rattle.cg_json.proofs.lines.lines_of.Goals as goal

pub returns : goal.returns
returns c =
    let e = c.args.entry.now in
    let first = map view c.push_lines.new.lines.items in
    let second = map view c.push_lines-2.new.lines.items in
    let third = map view c.push_lines-3.new.lines.items in
    let fourth = map view c.push_lines-4.new.lines.items in
    let fifth = map view c.push_lines-5.new.lines.items in
    let made : first ≡ map string (map made_text e.made) =
    next_part made_text (map view c.new-lines.result.items) first e.made c.as_slice.result.now [] c.in_ok-push_lines.ensures c.as_slice.ensures (ap (map view) c.new-lines.ensures.items) in
    let orders : second ≡ map string (map made_text e.made ++ map order_text e.orders) =
    next_part order_text first second e.orders c.as_slice-2.result.now (map made_text e.made) c.in_ok-push_lines-2.ensures c.as_slice-2.ensures made in
    let lines : third ≡ map string (map made_text e.made ++ map order_text e.orders ++ map line_text e.lines) =
    next_part line_text second third e.lines c.as_slice-3.result.now (map made_text e.made ++ map order_text e.orders) c.in_ok-push_lines-3.ensures c.as_slice-3.ensures orders in
    let replies : fourth ≡ map string (map made_text e.made ++ map order_text e.orders ++ map line_text e.lines ++ map reply_text e.replies) =
    next_part reply_text third fourth e.replies c.as_slice-4.result.now (map made_text e.made ++ map order_text e.orders ++ map line_text e.lines) c.in_ok-push_lines-4.ensures c.as_slice-4.ensures lines in
    next_part shown_text fourth fifth e.shown c.as_slice-5.result.now (map made_text e.made ++ map order_text e.orders ++ map line_text e.lines ++ map reply_text e.replies)
    c.in_ok-push_lines-5.ensures c.as_slice-5.ensures replies
