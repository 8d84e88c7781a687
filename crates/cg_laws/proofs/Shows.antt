-- What an entry shows beside the lines of replicas: what was made, places of the order, replies, what was asked for.
use Rattle.std.proofs.Common.{◌≡◌, ℕ, true, false, List, [], ◌∷◌, ◌++◌, codes, decimal, flat_map, Option, Some, None, refl, sym, ap, ◌∙◌}
use Rattle.std.specs.Prelude.{pos, negsuc, ◌==◌, if◌then◌else◌}
use Rattle.std.proofs.lemmas.List.{append_cancel_left}
use Rattle.cg_base.specs.declared.action_id.ActionId.{ActionId}
use Rattle.cg_base.specs.Text.{id_list_text}
use Rattle.cg_text.specs.Numbers.{is_digit}
use Rattle.cg_base.specs.Lists.{Each}
use Rattle.cg_action.specs.declared.answer.Answer.{Answer}
use Rattle.cg_action.specs.declared.answer.Answer.TheVariants.{Absent, Text, Int, Keys, Count}
use Rattle.cg_action.specs.declared.effect.Effect.{Effect}
use Rattle.cg_action.specs.declared.effect.Effect.TheVariants.{Done, Aborted, Range}
use Rattle.cg_action.specs.declared.entry.DbEntry.{DbEntry}
use Rattle.cg_report.specs.declared.entry.Made.{Made}
use Rattle.cg_report.specs.declared.entry.Placed.{Placed}
use Rattle.cg_report.specs.declared.entry.Reply.{Reply}
use Rattle.cg_report.specs.declared.entry.Shown.{Shown}
use Rattle.cg_report.specs.declared.entry.Shown.TheVariants.{Weak, Dirty, Pieces, Greens, Database, All}
use Rattle.cg_report.specs.EntryText.{made_text, order_text, effect_text, next_key_text, answer_text, answered_text, reply_text, next_entry_text, asked_text, pieces_text, shown_text}
use Rattle.cg_short.specs.Short.{IsShort, IsShortId, IfAny, IsShortMade, IsShortPlaced, IsShortEffect, IsShortAnswer, IsShortReply, IsShortDbEntry, IsShortShown}
use Rattle.cg_laws.proofs.Separating.{Separates, anything, begins, any, each_any, one, unequal, other_first, same_first, begins-follows, begins-other, after, before, joined, on, within, same, listed, over_list}
use Rattle.cg_laws.proofs.Parts.{two, three}
use Rattle.cg_laws.proofs.Numbers.{no_digit, number, signed, begins-digit, digit-other}
use Rattle.cg_laws.proofs.Quoting.{quote}
use Rattle.cg_laws.proofs.Names.{name, name_list}
use Rattle.cg_laws.proofs.Commands.{value, kind, line_ends, ends-other}

-- ---- what was made, and places of the order

pub made : Separates line_ends IsShortMade made_text one
made =
    same (λ x y e i. record { id = e.0 i; kind = e.1 i })
    (joined {E = anything} (λ m u h e. refl) (before (codes " ") (λ u h. refl) (after (codes "made ") (on (λ (m : Made). m.id) name))) (on (λ (m : Made). m.kind) kind))

pub order : Separates no_digit IsShortPlaced order_text one
order =
    same (λ x y e i. record { place = e.0 i; id = e.1 i })
    (joined {E = anything} (λ o u h e. refl) (before (codes " ") (λ u h. refl) (after (codes "order ") (on (λ (o : Placed). o.place) number))) (on (λ (o : Placed). o.id) name))

-- ---- answers

-- a line's end lets no digit and no blank follow
pub ends-digit : (u : List ℕ) → line_ends u ≡ true → no_digit u ≡ true
ends-digit = begins-follows no_digit 10 (λ w. refl)

pub ends-blank : (u : List ℕ) → line_ends u ≡ true → begins 32 u ≡ false
ends-blank u ends = begins-other 10 32 u refl ends

keys : Separates line_ends (Each any) (flat_map next_key_text) one
keys = listed (record {
  starts = begins 32;
  item_begins = λ key u h. refl;
  end_begins = ends-blank;
  item_follows = λ key u h. refl;
  end_follows = λ u ends. refl;
}) (after (codes " ") quote)

-- what comes first: a word, a quote or a number
abbrev sort_of : List ℕ → ℕ
sort_of [] = 0
sort_of (byte ∷ bytes) = if byte == 97 then 1 else if byte == 34 then 2 else if byte == 107 then 3 else if byte == 99 then 4 else 0

abbrev number_of : Answer → ℕ
number_of Absent = 1
number_of (Text t) = 2
number_of (Int n) = 0
number_of (Keys list) = 3
number_of (Count n) = 4

sort-digit : (digit : ℕ) (bytes : List ℕ) → is_digit digit ≡ true → sort_of (digit ∷ bytes) ≡ 0
sort-digit digit bytes is = rw (digit-other digit 97 is refl, digit-other digit 34 is refl, digit-other digit 107 is refl, digit-other digit 99 is refl) refl

answer-begins : (a : Answer) (u : List ℕ) → IsShortAnswer a → sort_of (answer_text a ++ u) ≡ number_of a
answer-begins Absent u h = refl
answer-begins (Text t) u h = refl
answer-begins (Int (pos n)) u h = let first = begins-digit n h in ap (λ ds. sort_of (ds ++ u)) first.2 ∙ sort-digit first.0 (first.1 ++ u) first.3
answer-begins (Int (negsuc n)) u h = refl
answer-begins (Keys list) u h = refl
answer-begins (Count n) u h = refl

answer-apart : (x y : Answer) (u v : List ℕ) → IsShortAnswer x → IsShortAnswer y → line_ends u ≡ true → line_ends v ≡ true → answer_text x ++ u ≡ answer_text y ++ v → number_of x ≡ number_of y → (x ≡ y) × (u ≡ v)
answer-apart Absent Absent u v hx hy eu ev e n = (refl, append_cancel_left (codes "absent") u v e)
answer-apart (Text s) (Text t) u v hx hy eu ev e n = let g = quote.apart s t u v tt tt refl refl e in ((λ i. Text (g.0 i)), g.1)
answer-apart (Int a) (Int b) u v hx hy eu ev e n = let g = signed.apart a b u v hx hy (ends-digit u eu) (ends-digit v ev) e in ((λ i. Int (g.0 i)), g.1)
answer-apart (Keys k) (Keys l) u v hx hy eu ev e n = let g = (after (codes "keys") keys).apart k l u v (each_any k) (each_any l) eu ev e in ((λ i. Keys (g.0 i)), g.1)
answer-apart (Count a) (Count b) u v hx hy eu ev e n = let g = (after (codes "count ") number).apart a b u v hx hy (ends-digit u eu) (ends-digit v ev) e in ((λ i. Count (g.0 i)), g.1)
answer-apart x y u v hx hy eu ev e n = unequal (number_of x) (number_of y) refl n

pub answer : Separates line_ends IsShortAnswer answer_text one
answer = record { apart = λ x y u v hx hy eu ev e. answer-apart x y u v hx hy eu ev e (sym (answer-begins x u hx) ∙ ap sort_of e ∙ answer-begins y v hy) }

-- ---- replies

effect-apart : (x y : Effect) (u v : List ℕ) → IsShortEffect x → IsShortEffect y → no_digit u ≡ true → no_digit v ≡ true → effect_text x ++ u ≡ effect_text y ++ v → (x ≡ y) × (u ≡ v)
effect-apart Done Done u v hx hy eu ev e = (refl, append_cancel_left (codes "done") u v e)
effect-apart (Aborted m) (Aborted n) u v hx hy eu ev e = let g = (after (codes "aborted ") number).apart m n u v hx hy eu ev e in ((λ i. Aborted (g.0 i)), g.1)
effect-apart (Range m) (Range n) u v hx hy eu ev e = let g = (after (codes "range ") number).apart m n u v hx hy eu ev e in ((λ i. Range (g.0 i)), g.1)
effect-apart _ _ u v hx hy eu ev e = other_first refl e

effect : Separates no_digit IsShortEffect effect_text one
effect = record { apart = effect-apart }

answered-apart : (x y : Option Answer) (u v : List ℕ) → IfAny IsShortAnswer x → IfAny IsShortAnswer y → line_ends u ≡ true → line_ends v ≡ true → answered_text x ++ u ≡ answered_text y ++ v → (x ≡ y) × (u ≡ v)
answered-apart None None u v hx hy eu ev e = (refl, e)
answered-apart None (Some b) u v hx hy eu ev e = ends-other 32 u _ refl eu e
answered-apart (Some a) None u v hx hy eu ev e = ends-other 32 v _ refl ev (sym e)
answered-apart (Some a) (Some b) u v hx hy eu ev e = let g = (after (codes " ? ") answer).apart a b u v hx hy eu ev e in ((λ i. Some (g.0 i)), g.1)

answered : Separates line_ends (IfAny IsShortAnswer) answered_text one
answered = record { apart = answered-apart }

answered-follows : (o : Option Answer) (u : List ℕ) → line_ends u ≡ true → no_digit (answered_text o ++ u) ≡ true
answered-follows None u ends = ends-digit u ends
answered-follows (Some a) u ends = refl

pub reply : Separates line_ends IsShortReply reply_text one
reply =
    within (λ r h. ((h.0, h.1), h.2))
    (same (λ x y e i. record { id = e.0.0 i; effect = e.0.1 i; answer = e.1 i })
    (joined (λ r u h ends. answered-follows r.answer u ends)
    (joined {E = anything} (λ r u h e. refl) (before (codes " ") (λ u h. refl) (after (codes "reply ") (on (λ (r : Reply). r.id) name))) (on (λ (r : Reply). r.effect) effect))
    (on (λ (r : Reply). r.answer) answered)))

-- ---- what was asked for

entry : Separates no_digit IsShortDbEntry next_entry_text one
entry = within (λ d h. (tt, h)) (same (λ x y e i. record { key = e.0 i; value = e.1 i }) (joined {E = anything} (λ d u h e. refl) (before (codes "=") (λ u h. refl) (after (codes " ") (on (λ (d : DbEntry). d.key) quote))) (on (λ (d : DbEntry). d.value) value)))

entries : Separates line_ends (Each IsShortDbEntry) (flat_map next_entry_text) one
entries = listed (record {
  starts = begins 32;
  item_begins = λ d u h. refl;
  end_begins = ends-blank;
  item_follows = λ d u h. refl;
  end_follows = ends-digit;
}) entry

entries-follow : (list : List DbEntry) (u : List ℕ) → Each IsShortDbEntry list → line_ends u ≡ true → no_digit (flat_map next_entry_text list ++ u) ≡ true
entries-follow list u each ends = over_list no_digit IsShortDbEntry next_entry_text (λ d w h. refl) list u each (ends-digit u ends)

abbrev Asked : Type 0
Asked = ℕ × Answer

asked : (word : List ℕ) → Separates line_ends (λ (p : Asked). IsShort p.0 × IsShortAnswer p.1) (λ p. asked_text word p.0 p.1) one
asked word = two word (codes " ") (λ u. refl) number answer

pieces : Separates no_digit (λ (p : ℕ × ℕ × ℕ). (IsShort p.0 × IsShort p.1) × IsShort p.2) (λ p. pieces_text p.0 p.1 p.2) one
pieces = three (codes "pieces ") (codes " ") (codes "/") (λ u. refl) (λ u. refl) number number number

greens : Separates anything (λ (p : ℕ × List ActionId). IsShort p.0 × Each IsShortId p.1) (λ p. codes "greens " ++ decimal p.0 ++ codes " " ++ id_list_text p.1) one
greens = two (codes "greens ") (codes " ") (λ u. refl) number name_list

abbrev Held : Type 0
Held = ℕ × List DbEntry

database : Separates line_ends (λ (p : Held). IsShort p.0 × Each IsShortDbEntry p.1) (λ p. codes "db " ++ decimal p.0 ++ flat_map next_entry_text p.1) one
database = same (λ p q e i. (e.0 i, e.1 i)) (joined (λ p u h ends. entries-follow p.1 u h ends) (after (codes "db ") (on (λ (p : Held). p.0) number)) (on (λ (p : Held). p.1) entries))

shown-apart : (x y : Shown) (u v : List ℕ) → IsShortShown x → IsShortShown y → line_ends u ≡ true → line_ends v ≡ true → shown_text x ++ u ≡ shown_text y ++ v → (x ≡ y) × (u ≡ v)
shown-apart (Weak p a) (Weak q b) u v hx hy eu ev e = let g = (asked (codes "weak ")).apart (p, a) (q, b) u v hx hy eu ev e in ((λ i. Weak (g.0 i).0 (g.0 i).1), g.1)
shown-apart (Dirty p a) (Dirty q b) u v hx hy eu ev e = let g = (asked (codes "dirty ")).apart (p, a) (q, b) u v hx hy eu ev e in ((λ i. Dirty (g.0 i).0 (g.0 i).1), g.1)
shown-apart (Pieces p k l) (Pieces q m n) u v hx hy eu ev e =
    let g = pieces.apart (p, k, l) (q, m, n) u v ((hx.0, hx.1), hx.2) ((hy.0, hy.1), hy.2) (ends-digit u eu) (ends-digit v ev) e in
    ((λ i. Pieces (g.0 i).0 (g.0 i).1 (g.0 i).2), g.1)
shown-apart (Greens p a) (Greens q b) u v hx hy eu ev e = let g = greens.apart (p, a) (q, b) u v hx hy refl refl e in ((λ i. Greens (g.0 i).0 (g.0 i).1), g.1)
shown-apart (Database p a) (Database q b) u v hx hy eu ev e = let g = database.apart (p, a) (q, b) u v hx hy eu ev e in ((λ i. Database (g.0 i).0 (g.0 i).1), g.1)
shown-apart (All a) (All b) u v hx hy eu ev e = let g = (after (codes "all ") name_list).apart a b u v hx hy refl refl e in ((λ i. All (g.0 i)), g.1)
shown-apart (Dirty p a) (Database q b) u v hx hy eu ev e = other_first refl (same_first {A = ℕ} e).1
shown-apart (Database p a) (Dirty q b) u v hx hy eu ev e = other_first refl (same_first {A = ℕ} e).1
shown-apart _ _ u v hx hy eu ev e = other_first refl e

pub shown : Separates line_ends IsShortShown shown_text one
shown = record { apart = shown-apart }
