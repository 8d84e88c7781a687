-- No byte of the line of an event within the limits is a control byte: so no line ends in it, and lines fall apart into the lines.
use Rattle.std.proofs.Common.{◌≡◌, ℕ, suc, ◌^◌, ◌+◌, ◌<◌, ◌≤◌, ◌-◌, ◌%◌, ◌/◌, ◌==◌, Bool, true, false, not, ◌||◌, List, [], ◌∷◌, ◌++◌, codes, length, drop, take, Option, Some, None, refl, ap, ◌∙◌, arith, if◌then◌else◌, append_assoc}
use Rattle.std.specs.Prelude.{nat_lt, nat_le, nat_eq, decimal, ℤ, pos, negsuc, FitsSigned, All}
use Rattle.std.specs.Fmt.{signed_decimal}
use Rattle.std.specs.Int.{w64}
use Rattle.std.specs.Cmp.Lexicographic.{pointwise}
use Rattle.std.specs.List.{flat_map, list_all, ends_with}
use Rattle.std.specs.Str.Parse.{AllDigits}
use Rattle.std.proofs.lemmas.Bool.{cond_both, cond-false, and_parts, leb-true, ltb-false, ne_eqb}
use Rattle.std.proofs.lemmas.Fmt.{decimal_is_IsNumeral}
use Rattle.std.proofs.lemmas.List.Elements.{All-nil, All-cons}
use Rattle.std.proofs.lemmas.List.Splits.{slice_split_at}
use Rattle.std.proofs.lemmas.Str.Parse.{digit_from_value}
use Rattle.cg_base.specs.declared.weighted.Weighted.{Weighted}
use Rattle.cg_base.specs.Sets.{IsId, Ascends}
use Rattle.cg_base.specs.Text.{weighted_text, pieces_of}
use Rattle.cg_base.specs.Weights.{Weigh, ids}
use Rattle.cg_text.specs.Printable.{is_printable}
use Rattle.cg_text.specs.Quoted.{is_special, is_control, escaped, quoted}
use Rattle.cg_action.specs.Limits.{IsCommandOf, IsValueOf, IsWantOf}
use Rattle.cg_action.specs.Print.{value_text, want_text, command_text, query_text, next_text, commands_text, update_text}
use Rattle.cg_action.specs.declared.command.Cmd.{Cmd}
use Rattle.cg_action.specs.declared.command.Cmd.TheVariants.{Put, Del, Inc, Cas, Move, Need}
use Rattle.cg_action.specs.declared.query.Query.{Query}
use Rattle.cg_action.specs.declared.query.Query.TheVariants.{Get, Keys, Count}
use Rattle.cg_action.specs.declared.value.Value.{Value}
use Rattle.cg_action.specs.declared.value.Value.TheVariants.{Text, Int}
use Rattle.cg_base.specs.Lists.{Each}
use Rattle.cg_base.specs.EachLaws.{Each-append, Each-drop}
use Rattle.cg_schedule.specs.declared.event.Event.{Event}
use Rattle.cg_schedule.specs.declared.event.Event.TheVariants.{Start, Split, Merge, Request, Weak, Dirty, Order, Recover, RecoverStopped, Downgrade, Show, ShowOrder, Gather, End, Receive, Deliver, Rounds, Stop, Fail, Join, Leave, Transfer}
use Rattle.cg_schedule.specs.Limits.{IsPrintable, IsQuery, IsUpdate, IsEvent}
use Rattle.cg_schedule.specs.Print.{id_behind, member_behind, hex_glyph, hex_text, fill_text, line_of}
use Rattle.cg_gen.specs.Lines.{lines_of}
use Rattle.cg_outcome.specs.Outcome.{without_return, lines_alone}

-- no byte is a control byte
abbrev Shown : List ℕ → Type 0
Shown = Each (λ byte. 32 ≤ byte)

both : (xs ys : List ℕ) → Shown xs → Shown ys → Shown (xs ++ ys)
both = Each-append (λ byte. 32 ≤ byte)

word : (xs : List ℕ) → list_all (nat_le 32) xs ≡ true → Shown xs
word [] e = tt
word (x ∷ xs) e = let p = and_parts (nat_le 32 x) (list_all (nat_le 32) xs) e in (leb-true 32 x p.0, word xs p.1)

each : {X : Type 0} (P : X → Type 0) (text : X → List ℕ) → ((x : X) → P x → Shown (text x)) → (xs : List X) → Each P xs → Shown (flat_map text xs)
each P text show [] are = tt
each P text show (x ∷ xs) are = both (text x) (flat_map text xs) (show x are.0) (each P text show xs are.1)

-- ---- numbers

digits : (ds : List ℕ) → AllDigits 10 ds → Shown ds
digits [] are = tt
digits (c ∷ cs) are = (let at = digit_from_value c are.0 in omega (arith, at.0), digits cs are.1)

number : (n : ℕ) → n < 2 ^ 64 → Shown (decimal n)
number n small = digits (decimal n) (decimal_is_IsNumeral n small).0.1

signed : (z : ℤ) → FitsSigned w64 z → Shown (signed_decimal z)
signed (pos n) fits = number n (omega (arith, fits.sfits))
signed (negsuc n) fits = (omega arith, number (suc n) (omega (arith, fits.sfits)))

id : (p : ℕ) → IsId p → Shown (decimal p)
id p is = number p (omega (arith, is.1))

up-to : (n high : ℕ) → high ≤ 1000000 → n ≤ high → Shown (decimal n)
up-to n high most le = number n (omega (arith, most, le))

weighted : (p weight : ℕ) → IsId p → weight ≤ 255 → Shown (weighted_text p weight)
weighted p weight is small =
    both (decimal p) (if weight == 1 then [] else 42 ∷ decimal weight) (id p is)
    (cond_both (weight == 1) [] (42 ∷ decimal weight) Shown (λ y. tt) (λ n. (omega arith, up-to weight 255 (omega arith) small)))

-- ---- texts

no-control : (byte : ℕ) → not (is_control byte) ≡ true → 32 ≤ byte
no-control byte e = ltb-false byte 32 (first (nat_lt byte 32) (byte == 127) e) where
  first : (x y : Bool) → not (x || y) ≡ true → x ≡ false
  first true y e = absurd cc
  first false y e = refl

escaped-shown : (byte : ℕ) → 32 ≤ byte → Shown (escaped byte)
escaped-shown byte above = cond_both (is_special byte) (92 ∷ byte ∷ []) (byte ∷ []) Shown (λ y. (omega arith, (above, tt))) (λ n. (above, tt))

text : (t : List ℕ) → is_printable t ≡ true → Shown (flat_map escaped t)
text [] e = tt
text (byte ∷ t) e =
    let p = and_parts (not (is_control byte)) (is_printable t) e in
    both (escaped byte) (flat_map escaped t) (escaped-shown byte (no-control byte p.0)) (text t p.1)

quoted-shown : (low high : ℕ) (t : List ℕ) → IsPrintable low high t → Shown (quoted t)
quoted-shown low high t is = (omega arith, both (flat_map escaped t) (34 ∷ []) (text t is.1) (omega arith, tt))

-- ---- what is asked

value : (v : Value) → IsValueOf IsPrintable v → Shown (value_text v)
value (Text t) is = quoted-shown 0 1024 t is
value (Int n) is = signed n is

want : (v : Option Value) → IsWantOf IsPrintable v → Shown (want_text v)
want None is = word (codes "absent") refl
want (Some v) is = value v is

-- a word, and what stands behind it
behind : (w xs : List ℕ) → list_all (nat_le 32) w ≡ true → Shown xs → Shown (w ++ xs)
behind w xs e is = both w xs (word w e) is

two : (w xs ys : List ℕ) → list_all (nat_le 32) w ≡ true → Shown xs → Shown ys → Shown (w ++ xs ++ codes " " ++ ys)
two w xs ys e is there = both (w ++ xs ++ codes " ") ys (both (w ++ xs) (codes " ") (behind w xs e is) (word (codes " ") refl)) there

three : (w xs ys zs : List ℕ) → list_all (nat_le 32) w ≡ true → Shown xs → Shown ys → Shown zs → Shown (w ++ xs ++ codes " " ++ ys ++ codes " " ++ zs)
three w xs ys zs e is there last =
    both (w ++ xs ++ codes " " ++ ys ++ codes " ") zs (both (w ++ xs ++ codes " " ++ ys) (codes " ") (two w xs ys e is there) (word (codes " ") refl)) last

command : (cmd : Cmd) → IsCommandOf IsPrintable cmd → Shown (command_text cmd)
command (Put key v) is = two (codes "put ") (quoted key) (value_text v) refl (quoted-shown 1 64 key is.0) (value v is.1)
command (Del key) is = behind (codes "del ") (quoted key) refl (quoted-shown 1 64 key is)
command (Inc key by) is = two (codes "inc ") (quoted key) (signed_decimal by) refl (quoted-shown 1 64 key is.0) (signed by is.1)
command (Cas key w v) is = three (codes "cas ") (quoted key) (want_text w) (value_text v) refl (quoted-shown 1 64 key is.0) (want w is.1) (value v is.2)
command (Move source target amount) is =
    three (codes "move ") (quoted source) (quoted target) (signed_decimal amount) refl (quoted-shown 1 64 source is.0) (quoted-shown 1 64 target is.1) (signed amount is.2)
command (Need key w) is = two (codes "need ") (quoted key) (want_text w) refl (quoted-shown 1 64 key is.0) (want w is.1)

query : (q : Query) → IsQuery q → Shown (query_text q)
query (Get key) is = behind (codes "get ") (quoted key) refl (quoted-shown 1 64 key is)
query (Keys prefix) is = behind (codes "keys ") (quoted prefix) refl (quoted-shown 0 64 prefix is)
query Count is = word (codes "count") refl

each-of : (P : Cmd → Type 0) (cmds : List Cmd) → All P cmds → Each P cmds
each-of P [] all = tt
each-of P (cmd ∷ cmds) all = (all 0 cmd (omega arith), each-of P cmds (λ k d less. all (suc k) d (omega (arith, less))))

commands : (cmds : List Cmd) → Each (IsCommandOf IsPrintable) cmds → Shown (commands_text cmds)
commands [] are = tt
commands (cmd ∷ cmds) are =
    both (command_text cmd) (flat_map next_text cmds) (command cmd are.0)
    (each (IsCommandOf IsPrintable) next_text (λ cmd is. behind (codes "; ") (command_text cmd) refl (command cmd is)) cmds are.1)

update : (cmds : List Cmd) (q : Option Query) → IsUpdate cmds q → Shown (update_text cmds q)
update cmds None is = commands cmds (each-of (IsCommandOf IsPrintable) cmds is.each)
update [] (Some q) is = behind (codes "? ") (query_text q) refl (query q is.asks)
update (cmd ∷ cmds) (Some q) is =
    both (commands_text (cmd ∷ cmds) ++ codes " ? ") (query_text q)
    (both (commands_text (cmd ∷ cmds)) (codes " ? ") (commands (cmd ∷ cmds) (each-of (IsCommandOf IsPrintable) (cmd ∷ cmds) is.each)) (word (codes " ? ") refl)) (query q is.asks)

-- ---- events

members : (low : ℕ) (set : List ℕ) → Ascends low set → 1 ≤ low → Shown (flat_map id_behind set)
members low [] ascends one = tt
members low (p ∷ set) ascends one =
    both (id_behind p) (flat_map id_behind set) (behind (codes " ") (decimal p) refl (id p (omega (arith, ascends.0, one), ascends.1)))
    (members (suc p) set ascends.2 (omega arith))

weighted-members : (low : ℕ) (set : List Weighted) → Ascends low (ids set) → Weigh set → 1 ≤ low → Shown (flat_map member_behind set)
weighted-members low [] ascends weigh one = tt
weighted-members low (m ∷ set) ascends weigh one =
    both (member_behind m) (flat_map member_behind set)
    (behind (codes " ") (weighted_text m.id m.weight) refl (weighted m.id m.weight (omega (arith, ascends.0, one), ascends.1) weigh.1))
    (weighted-members (suc m.id) set ascends.2 weigh.2 (omega arith))

glyph : (n : ℕ) → 32 ≤ hex_glyph n
glyph n = cond_both (nat_lt n 10) (48 + n) (87 + n) (λ k. 32 ≤ k) (λ y. omega arith) (λ m. omega arith)

fill : (bytes : List ℕ) → Shown (fill_text bytes)
fill [] = word (codes "-") refl
fill (byte ∷ bytes) = each (λ b. Unit {0}) hex_text (λ b any. (glyph (b / 16), (glyph (b % 16), tt))) (byte ∷ bytes) (any-all (byte ∷ bytes)) where
  any-all : (bytes : List ℕ) → Each (λ (b : ℕ). Unit {0}) bytes
  any-all [] = tt
  any-all (b ∷ bytes) = (tt, any-all bytes)

line-shown : (e : Event) → IsEvent e → Shown (line_of e)
line-shown (Start set) is = behind (codes "start") (flat_map member_behind set) refl (weighted-members 1 set is.ascends is.weigh (omega arith))
line-shown (Split set) is = behind (codes "split") (flat_map id_behind set) refl (members 1 set is.ascends (omega arith))
line-shown (Merge set) is = behind (codes "merge") (flat_map id_behind set) refl (members 1 set is.ascends (omega arith))
line-shown (Request p cmds q) is = two (codes "request ") (decimal p) (update_text cmds q) refl (id p is.0) (update cmds q is.1)
line-shown (Weak p q) is = two (codes "weak ") (decimal p) (query_text q) refl (id p is.0) (query q is.1)
line-shown (Dirty p q) is = two (codes "dirty ") (decimal p) (query_text q) refl (id p is.0) (query q is.1)
line-shown (Order p) is = behind (codes "order ") (decimal p) refl (id p is)
line-shown (Recover p) is = behind (codes "recover ") (decimal p) refl (id p is)
line-shown (RecoverStopped p call bytes) is = three (codes "recover ") (decimal p) (decimal call) (fill_text bytes) refl (id p is.0) (up-to call 1000000 (omega arith) is.1.0.1) (fill bytes)
line-shown (Downgrade p) is = behind (codes "downgrade ") (decimal p) refl (id p is)
line-shown (Show p) is = behind (codes "show ") (decimal p) refl (id p is)
line-shown ShowOrder is = word (codes "show order") refl
line-shown Gather is = word (codes "gather") refl
line-shown End is = word (codes "end") refl
line-shown (Receive p place) is = two (codes "receive ") (decimal p) (decimal place) refl (id p is.0) (up-to place 1000000 (omega arith) is.1.1)
line-shown (Deliver p count) is = two (codes "deliver ") (decimal p) (decimal count) refl (id p is.0) (up-to count 1000000 (omega arith) is.1.1)
line-shown (Rounds count) is = behind (codes "rounds ") (decimal count) refl (up-to count 1000000 (omega arith) is.1)
line-shown (Stop p call bytes) is = three (codes "stop ") (decimal p) (decimal call) (fill_text bytes) refl (id p is.0) (up-to call 1000000 (omega arith) is.1.0.1) (fill bytes)
line-shown (Fail p call) is = two (codes "fail ") (decimal p) (decimal call) refl (id p is.0) (up-to call 1000000 (omega arith) is.1.1)
line-shown (Join p joiner weight) is =
    two (codes "join ") (decimal p) (weighted_text joiner weight) refl (id p is.0) (weighted joiner weight is.1.0 is.1.1.1)
line-shown (Leave p server) is = two (codes "leave ") (decimal p) (decimal server) refl (id p is.0) (id server is.1)
line-shown (Transfer p joiner pieces) is =
    three (codes "transfer ") (decimal p) (decimal joiner) (decimal pieces) refl (id p is.0) (id joiner is.1.0) (up-to pieces 1000000 (omega arith) is.1.1.1)

-- ---- lines

no-return : (xs : List ℕ) → Shown xs → pointwise nat_eq (codes "\r") xs ≡ false
no-return [] are = refl
no-return (x ∷ xs) are = rw (ne_eqb 13 x (λ e. omega (arith, are.0, e))) refl

-- a line stands as it is before its line feed
pub as-it-is : (e : Event) → IsEvent e → without_return (line_of e) ≡ line_of e
as-it-is e is =
    let line = line_of e in
    cond-false (ends_with nat_eq line (codes "\r")) (take (length line - 1) line) line
    (no-return (drop (length line - 1) line) (Each-drop (λ byte. 32 ≤ byte) (length line - 1) line (line-shown e is)))

no-feed : (xs : List ℕ) → Shown xs → All (λ b. (b == 10) ≡ false) xs
no-feed [] are = All-nil (λ b. (b == 10) ≡ false)
no-feed (x ∷ xs) are = All-cons (λ b. (b == 10) ≡ false) x xs (ne_eqb x 10 (λ e. omega (arith, are.0, e))) (no-feed xs are.1)

-- the pieces of the lines of events are the lines
pub pieces-are : (events : List Event) → Each IsEvent events → pieces_of 10 (lines_of events) ≡ lines_alone events
pieces-are [] are = refl
pieces-are (e ∷ events) are =
    ap (pieces_of 10) (append_assoc (line_of e) (10 ∷ []) (lines_of events))
    ∙ slice_split_at (λ b. b == 10) (line_of e) 10 (lines_of events) (no-feed (line_of e) (line-shown e are.0)) refl
    ∙ ap (λ pieces. line_of e ∷ pieces) (pieces-are events are.1)
