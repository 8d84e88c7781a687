-- What actions do: values, commands and queries.
use Rattle.std.proofs.Common.{◌≡◌, ℕ, Bool, true, false, eqb, List, [], ◌∷◌, ◌++◌, codes, flat_map, Option, Some, None, not, ◌||◌, refl, sym, ap, ◌∙◌, append_assoc, true≢false, if◌then◌else◌}
use Rattle.std.proofs.lemmas.Bool.{eqb-true, eqb-false}
use Rattle.std.proofs.lemmas.List.{append_cancel_left}
use Rattle.std.specs.Prelude.{ℤ, ◌==◌}
use Rattle.std.specs.Fmt.{signed_decimal}
use Rattle.cg_text.specs.Numbers.{is_digit}
use Rattle.cg_text.specs.Quoted.{quoted}
use Rattle.cg_base.specs.Lists.{Each}
use Rattle.cg_action.specs.declared.value.Value.{Value}
use Rattle.cg_action.specs.declared.value.Value.TheVariants.{Text, Int}
use Rattle.cg_action.specs.declared.command.Cmd.{Cmd}
use Rattle.cg_action.specs.declared.command.Cmd.TheVariants.{Put, Del, Inc, Cas, Move, Need}
use Rattle.cg_action.specs.declared.query.Query.{Query}
use Rattle.cg_action.specs.declared.query.Query.TheVariants.{Get, Keys, Count}
use Rattle.cg_action.specs.declared.action.Kind.{Kind}
use Rattle.cg_action.specs.declared.action.Kind.TheVariants.{Update, Join, Leave}
use Rattle.cg_action.specs.Print.{value_text, want_text, command_text, query_text, next_text, commands_text, update_text, kind_text}
use Rattle.cg_short.specs.Short.{IsShortInt, IfAny, IsShortValue, IsShortCommand, IsShortKind}
use Rattle.cg_laws.proofs.Separating.{Separates, anything, begins_without, begins, any, one, same_first, unequal, other_first, after, joined, on, same, listed, over_list, begins-follows}
use Rattle.cg_laws.proofs.Numbers.{no_digit, number, signed, signed-other}
use Rattle.cg_laws.proofs.Parts.{two, three}
use Rattle.cg_laws.proofs.Quoting.{quote}
use Rattle.cg_laws.proofs.Names.{no_star, member}

-- ---- values

value-apart : (x y : Value) (u v : List ℕ) → IsShortValue x → IsShortValue y → no_digit u ≡ true → no_digit v ≡ true → value_text x ++ u ≡ value_text y ++ v → (x ≡ y) × (u ≡ v)
value-apart (Text s) (Text t) u v hx hy eu ev e = let g = quote.apart s t u v tt tt refl refl e in ((λ i. Text (g.0 i)), g.1)
value-apart (Text s) (Int n) u v hx hy eu ev e = signed-other n 34 v _ hy refl refl (sym e)
value-apart (Int n) (Text t) u v hx hy eu ev e = signed-other n 34 u _ hx refl refl e
value-apart (Int m) (Int n) u v hx hy eu ev e = let g = signed.apart m n u v hx hy eu ev e in ((λ i. Int (g.0 i)), g.1)

pub value : Separates no_digit IsShortValue value_text one
value = record { apart = value-apart }

-- a value doesn't begin as a word
value-other : {A : Type 0} (x : Value) (byte : ℕ) (u v : List ℕ) → IsShortValue x → is_digit byte ≡ false → eqb 45 byte ≡ false → eqb 34 byte ≡ false → value_text x ++ u ≡ byte ∷ v → A
value-other (Text t) byte u v short none sign mark e = other_first mark e
value-other (Int n) byte u v short none sign mark e = signed-other n byte u v short none sign e

want-apart : (x y : Option Value) (u v : List ℕ) → IfAny IsShortValue x → IfAny IsShortValue y → no_digit u ≡ true → no_digit v ≡ true → want_text x ++ u ≡ want_text y ++ v → (x ≡ y) × (u ≡ v)
want-apart None None u v hx hy eu ev e = (refl, append_cancel_left (codes "absent") u v e)
want-apart None (Some y) u v hx hy eu ev e = value-other y 97 v _ hy refl refl refl (sym e)
want-apart (Some x) None u v hx hy eu ev e = value-other x 97 u _ hx refl refl refl e
want-apart (Some x) (Some y) u v hx hy eu ev e = let g = value.apart x y u v hx hy eu ev e in ((λ i. Some (g.0 i)), g.1)

pub want : Separates no_digit (IfAny IsShortValue) want_text one
want = record { apart = want-apart }

-- ---- commands

-- the arguments behind each word
put : Separates no_digit (λ (p : List ℕ × Value). any p.0 × IsShortValue p.1) (λ p. codes "put " ++ quoted p.0 ++ codes " " ++ value_text p.1) one
put = two (codes "put ") (codes " ") (λ u. refl) quote value

inc : Separates no_digit (λ (p : List ℕ × ℤ). any p.0 × IsShortInt p.1) (λ p. codes "inc " ++ quoted p.0 ++ codes " " ++ signed_decimal p.1) one
inc = two (codes "inc ") (codes " ") (λ u. refl) quote signed

need : Separates no_digit (λ (p : List ℕ × Option Value). any p.0 × IfAny IsShortValue p.1) (λ p. codes "need " ++ quoted p.0 ++ codes " " ++ want_text p.1) one
need = two (codes "need ") (codes " ") (λ u. refl) quote want

cas : Separates no_digit (λ (p : List ℕ × Option Value × Value). (any p.0 × IfAny IsShortValue p.1) × IsShortValue p.2) (λ p. codes "cas " ++ quoted p.0 ++ codes " " ++ want_text p.1 ++ codes " " ++ value_text p.2) one
cas = three (codes "cas ") (codes " ") (codes " ") (λ u. refl) (λ u. refl) quote want value

move : Separates no_digit (λ (p : List ℕ × List ℕ × ℤ). (any p.0 × any p.1) × IsShortInt p.2) (λ p. codes "move " ++ quoted p.0 ++ codes " " ++ quoted p.1 ++ codes " " ++ signed_decimal p.2) one
move = three (codes "move ") (codes " ") (codes " ") (λ u. refl) (λ u. refl) quote quote signed

command-apart : (x y : Cmd) (u v : List ℕ) → IsShortCommand x → IsShortCommand y → no_digit u ≡ true → no_digit v ≡ true → command_text x ++ u ≡ command_text y ++ v → (x ≡ y) × (u ≡ v)
command-apart (Put k a) (Put l b) u v hx hy eu ev e = let g = put.apart (k, a) (l, b) u v (tt, hx) (tt, hy) eu ev e in ((λ i. Put (g.0 i).0 (g.0 i).1), g.1)
command-apart (Del k) (Del l) u v hx hy eu ev e = let g = (after (codes "del ") quote).apart k l u v tt tt refl refl e in ((λ i. Del (g.0 i)), g.1)
command-apart (Inc k a) (Inc l b) u v hx hy eu ev e = let g = inc.apart (k, a) (l, b) u v (tt, hx) (tt, hy) eu ev e in ((λ i. Inc (g.0 i).0 (g.0 i).1), g.1)
command-apart (Cas k a m) (Cas l b n) u v hx hy eu ev e =
    let g = cas.apart (k, a, m) (l, b, n) u v ((tt, hx.0), hx.1) ((tt, hy.0), hy.1) eu ev e in
    ((λ i. Cas (g.0 i).0 (g.0 i).1 (g.0 i).2), g.1)
command-apart (Move k a m) (Move l b n) u v hx hy eu ev e =
    let g = move.apart (k, a, m) (l, b, n) u v ((tt, tt), hx) ((tt, tt), hy) eu ev e in
    ((λ i. Move (g.0 i).0 (g.0 i).1 (g.0 i).2), g.1)
command-apart (Need k a) (Need l b) u v hx hy eu ev e = let g = need.apart (k, a) (l, b) u v (tt, hx) (tt, hy) eu ev e in ((λ i. Need (g.0 i).0 (g.0 i).1), g.1)
command-apart _ _ u v hx hy eu ev e = other_first refl e

pub command : Separates no_digit IsShortCommand command_text one
command = record { apart = command-apart }

query-apart : (x y : Query) (u v : List ℕ) → query_text x ++ u ≡ query_text y ++ v → (x ≡ y) × (u ≡ v)
query-apart (Get k) (Get l) u v e = let g = (after (codes "get ") quote).apart k l u v tt tt refl refl e in ((λ i. Get (g.0 i)), g.1)
query-apart (Keys k) (Keys l) u v e = let g = (after (codes "keys ") quote).apart k l u v tt tt refl refl e in ((λ i. Keys (g.0 i)), g.1)
query-apart Count Count u v e = (refl, append_cancel_left (codes "count") u v e)
query-apart _ _ u v e = other_first refl e

pub query : Separates anything any query_text one
query = record { apart = λ x y u v hx hy eu ev e. query-apart x y u v e }

-- ---- commands behind one another, and a query behind them

-- the line ends
abbrev pub line_ends : List ℕ → Bool
line_ends u = begins 10 u

-- no digit comes first, and no semicolon
abbrev no_more : List ℕ → Bool
no_more u = begins_without (λ byte. is_digit byte || (byte == 59)) u

no_more-digit : (u : List ℕ) → no_more u ≡ true → no_digit u ≡ true
no_more-digit [] e = refl
no_more-digit (byte ∷ u) e = left (is_digit byte) (eqb byte 59) e
  where
    left : (a b : Bool) → not (a || b) ≡ true → not a ≡ true
    left true b e = e
    left false b e = refl

no_more-semicolon : (u : List ℕ) → no_more u ≡ true → begins 59 u ≡ false
no_more-semicolon [] e = refl
no_more-semicolon (byte ∷ u) e = right (is_digit byte) (eqb byte 59) e
  where
    right : (a b : Bool) → not (a || b) ≡ true → b ≡ false
    right true b e = absurd (true≢false (sym e))
    right false true e = absurd (true≢false (sym e))
    right false false e = refl

next : Separates no_more (Each IsShortCommand) (flat_map next_text) one
next = listed (record {
  starts = begins 59;
  item_begins = λ c u h. refl;
  end_begins = no_more-semicolon;
  item_follows = λ c u h. refl;
  end_follows = no_more-digit;
}) (after (codes "; ") command)

next-follows : (cmds : List Cmd) (u : List ℕ) → Each IsShortCommand cmds → no_more u ≡ true → no_digit (flat_map next_text cmds ++ u) ≡ true
next-follows cmds u each ends = over_list no_digit IsShortCommand next_text (λ c w h. refl) cmds u each (no_more-digit u ends)

-- a command first, and others behind it
abbrev Commands : Type 0
Commands = Cmd × List Cmd

commands : Separates no_more (λ (p : Commands). IsShortCommand p.0 × Each IsShortCommand p.1) (λ p. commands_text (p.0 ∷ p.1)) one
commands = same (λ p q e i. (e.0 i, e.1 i)) (joined (λ p u h ends. next-follows p.1 u h ends) (on (λ (p : Commands). p.0) command) (on (λ (p : Commands). p.1) next))

-- the query behind commands, where there is one
abbrev asked : Option Query → List ℕ
asked None = []
asked (Some q) = codes " ? " ++ query_text q

asked-follows : (o : Option Query) (u : List ℕ) → line_ends u ≡ true → no_more (asked o ++ u) ≡ true
asked-follows None u ends = begins-follows no_more 10 (λ w. refl) u ends
asked-follows (Some q) u ends = refl

-- the line's end is no other byte
pub ends-other : {A : Type 0} (byte : ℕ) (u v : List ℕ) → eqb 10 byte ≡ false → line_ends u ≡ true → u ≡ byte ∷ v → A
ends-other byte [] v other ends e = absurd (true≢false (sym ends))
ends-other byte (first ∷ u) v other ends e = absurd (eqb-false 10 byte other (sym (eqb-true first 10 ends) ∙ (same_first {A = ℕ} e).0))

asked-apart : (x y : Option Query) (u v : List ℕ) → line_ends u ≡ true → line_ends v ≡ true → asked x ++ u ≡ asked y ++ v → (x ≡ y) × (u ≡ v)
asked-apart None None u v eu ev e = (refl, e)
asked-apart None (Some q) u v eu ev e = ends-other 32 u _ refl eu e
asked-apart (Some q) None u v eu ev e = ends-other 32 v _ refl ev (sym e)
asked-apart (Some q) (Some r) u v eu ev e = let g = (after (codes " ? ") query).apart q r u v tt tt refl refl e in ((λ i. Some (g.0 i)), g.1)

-- ---- updates

-- commands and what is asked behind them
update-parts : (c : Cmd) (cmds : List Cmd) (o : Option Query) (u : List ℕ) → update_text (c ∷ cmds) o ++ u ≡ commands_text (c ∷ cmds) ++ (asked o ++ u)
update-parts c cmds None u = refl
update-parts c cmds (Some q) u = ap (λ t. t ++ u) (append_assoc (commands_text (c ∷ cmds)) (codes " ? ") (query_text q)) ∙ append_assoc (commands_text (c ∷ cmds)) (asked (Some q)) u

-- what comes first: nothing, a query, or a command
abbrev sort_of : List ℕ → ℕ
sort_of [] = 0
sort_of (byte ∷ bytes) = if byte == 10 then 0 else if byte == 63 then 1 else 2

sort-ended : (u : List ℕ) → line_ends u ≡ true → sort_of u ≡ 0
sort-ended [] ends = refl
sort-ended (byte ∷ u) ends = rw ends refl

sort-command : (c : Cmd) (cmds : List Cmd) (o : Option Query) (u : List ℕ) → sort_of (update_text (c ∷ cmds) o ++ u) ≡ 2
sort-command (Put k a) cmds None u = refl
sort-command (Put k a) cmds (Some q) u = refl
sort-command _ cmds None u = refl
sort-command _ cmds (Some q) u = refl

update-apart : (x y : List Cmd) (o p : Option Query) (u v : List ℕ) → Each IsShortCommand x → Each IsShortCommand y → line_ends u ≡ true → line_ends v ≡ true
    → update_text x o ++ u ≡ update_text y p ++ v → ((x ≡ y) × (o ≡ p)) × (u ≡ v)
update-apart [] [] None None u v hx hy eu ev e = ((refl, refl), e)
update-apart [] [] None (Some q) u v hx hy eu ev e = ends-other 63 u _ refl eu e
update-apart [] [] (Some q) None u v hx hy eu ev e = ends-other 63 v _ refl ev (sym e)
update-apart [] [] (Some q) (Some r) u v hx hy eu ev e = let g = (after (codes "? ") query).apart q r u v tt tt refl refl e in ((refl, (λ i. Some (g.0 i))), g.1)
update-apart [] (d ∷ y) None p u v hx hy eu ev e = unequal 0 2 refl (sym (sort-ended u eu) ∙ ap sort_of e ∙ sort-command d y p v)
update-apart [] (d ∷ y) (Some q) p u v hx hy eu ev e = unequal 1 2 refl (ap sort_of e ∙ sort-command d y p v)
update-apart (c ∷ x) [] o None u v hx hy eu ev e = unequal 2 0 refl (sym (sort-command c x o u) ∙ ap sort_of e ∙ sort-ended v ev)
update-apart (c ∷ x) [] o (Some q) u v hx hy eu ev e = unequal 2 1 refl (sym (sort-command c x o u) ∙ ap sort_of e)
update-apart (c ∷ x) (d ∷ y) o p u v hx hy eu ev e =
    let front = commands.apart (c, x) (d, y) (asked o ++ u) (asked p ++ v) hx hy (asked-follows o u eu) (asked-follows p v ev) (sym (update-parts c x o u) ∙ e ∙ update-parts d y p v) in
    let rest = asked-apart o p u v eu ev front.1 in
    (((λ i. (front.0 i).0 ∷ (front.0 i).1), rest.0), rest.1)

-- ---- kinds

-- what comes first: a joiner, a server that leaves, or an update
abbrev kind_of : List ℕ → ℕ
kind_of [] = 0
kind_of (byte ∷ bytes) = if byte == 106 then 1 else if byte == 108 then 2 else 0

abbrev number_of : Kind → ℕ
number_of (Update cmds q) = 0
number_of (Join joiner weight) = 1
number_of (Leave server) = 2

kind-command : (c : Cmd) (cmds : List Cmd) (o : Option Query) (u : List ℕ) → kind_of (update_text (c ∷ cmds) o ++ u) ≡ 0
kind-command (Put k a) cmds None u = refl
kind-command (Put k a) cmds (Some q) u = refl
kind-command _ cmds None u = refl
kind-command _ cmds (Some q) u = refl

kind-begins : (k : Kind) (u : List ℕ) → line_ends u ≡ true → kind_of (kind_text k ++ u) ≡ number_of k
kind-begins (Update [] None) u ends = ended u ends
  where
    ended : (u : List ℕ) → line_ends u ≡ true → kind_of u ≡ 0
    ended [] ends = refl
    ended (byte ∷ u) ends = rw (eqb-true byte 10 ends) refl
kind-begins (Update [] (Some q)) u ends = refl
kind-begins (Update (c ∷ cmds) o) u ends = kind-command c cmds o u
kind-begins (Join joiner weight) u ends = refl
kind-begins (Leave server) u ends = refl

kind-apart : (x y : Kind) (u v : List ℕ) → IsShortKind x → IsShortKind y → line_ends u ≡ true → line_ends v ≡ true → kind_text x ++ u ≡ kind_text y ++ v → number_of x ≡ number_of y → (x ≡ y) × (u ≡ v)
kind-apart (Update cmds o) (Update others p) u v hx hy eu ev e n = let g = update-apart cmds others o p u v hx hy eu ev e in ((λ i. Update (g.0.0 i) (g.0.1 i)), g.1)
kind-apart (Join p m) (Join q n) u v hx hy eu ev e c =
    let end = begins-follows no_star 10 (λ w. refl) in
    let g = (after (codes "join ") member).apart (record { id = p; weight = m }) (record { id = q; weight = n }) u v hx hy (end u eu) (end v ev) e in
    ((λ i. Join (g.0 i).id (g.0 i).weight), g.1)
kind-apart (Leave p) (Leave q) u v hx hy eu ev e n =
    let end = begins-follows no_digit 10 (λ w. refl) in
    let g = (after (codes "leave ") number).apart p q u v hx hy (end u eu) (end v ev) e in
    ((λ i. Leave (g.0 i)), g.1)
kind-apart x y u v hx hy eu ev e n = unequal (number_of x) (number_of y) refl n

pub kind : Separates line_ends IsShortKind kind_text one
kind = record { apart = λ x y u v hx hy eu ev e. kind-apart x y u v hx hy eu ev e (sym (kind-begins x u eu) ∙ ap kind_of e ∙ kind-begins y v ev) }
