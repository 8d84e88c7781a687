-- What the entries of a run have shown, in numbers, and the summary that tells it.
use Rattle.std.specs.Prelude.{ℕ, ◌+◌, max, List, [], ◌∷◌, ◌++◌, length, fold, codes, decimal}
use Rattle.std.specs.Option.{option_map_or}
use Rattle.cg_base.specs.Ascii.{LINE_FEED}
use Rattle.cg_report.specs.declared.entry.Entry.{Entry}
use Rattle.cg_report.specs.declared.line.Line.{Line}
use Rattle.cg_outcome.specs.declared.totals.Totals.{Totals}

abbrev pub no_totals : Totals
no_totals = record { made = 0; ordered = 0; prim_index = 0; replies = 0 }

-- the greatest index of a primary component that was shown before, or is by these lines: a replica that is down shows none
abbrev pub greatest_index : ℕ → List Line → ℕ
greatest_index before lines = fold (λ n line. max n (option_map_or (λ up. up.view.prim.index) line.up 0)) before lines

-- with what an entry shows
abbrev pub with_entry : Totals → Entry → Totals
with_entry t entry = record {
  made = t.made + length entry.made;
  ordered = t.ordered + length entry.orders;
  prim_index = greatest_index t.prim_index entry.lines;
  replies = t.replies + length entry.replies;
}

-- a word and its number, with the line's end
abbrev pub counted : List ℕ → ℕ → List ℕ
counted word n = word ++ (decimal n ++ LINE_FEED ∷ [])

-- the five lines of a summary, after so many steps
abbrev pub summary_text : ℕ → Totals → List ℕ
summary_text steps t =
    counted (codes "steps ") steps ++ (counted (codes "made ") t.made ++ (counted (codes "ordered ") t.ordered
    ++ (counted (codes "prim ") t.prim_index ++ counted (codes "replies ") t.replies)))
