-- The tokens of a printed line are those of its event.
use Rattle.std.proofs.Common.{◌≡◌, ℕ, suc, ◌+◌, ◌/◌, ◌%◌, ◌^◌, ◌<◌, ◌≤◌, Bool, true, false, cond, eqb, ltb, List, [], ◌∷◌, ◌++◌, length, Option, Some, None, refl, sym, ap, ◌∙◌, append_assoc, arith, codes}
use Rattle.std.specs.Prelude.{ℤ, pos, negsuc, decimal, map, not, nat_le, FitsSigned}
use Rattle.std.specs.Fmt.{signed_decimal}
use Rattle.std.specs.Int.{w64}
use Rattle.std.specs.List.{All, flat_map, list_all}
use Rattle.std.specs.Str.{IsUtf8}
use Rattle.std.proofs.lemmas.Bool.{ne_eqb, lt-ltb, ltb-true, ltb-false, leb-true, and_parts, and_from}
use Rattle.std.proofs.lemmas.Int.{ints}
use Rattle.std.proofs.lemmas.List.{append-nil}
use Rattle.std.proofs.lemmas.List.Elements.{All-head, All-tail}
use Rattle.std.proofs.lemmas.List.Folds.{list_all-append}
use Rattle.std.proofs.lemmas.Str.{IsUtf8-append}
use Rattle.cg_base.specs.declared.weighted.Weighted.{Weighted}
use Rattle.cg_base.specs.Sets.{Ascends}
use Rattle.cg_base.specs.Weights.{Weigh, ids as members}
use Rattle.cg_base.specs.Text.{weighted_text}
use Rattle.cg_text.specs.Numbers.{is_digit}
use Rattle.cg_text.specs.Quoted.{quoted}
use Rattle.cg_text.specs.Tokens.{is_blank, is_separator, is_mark, is_word, ends_word, tokens}
use Rattle.cg_action.specs.declared.value.Value.{Value}
use Rattle.cg_action.specs.declared.value.Value.TheVariants.{Text, Int}
use Rattle.cg_action.specs.declared.command.Cmd.{Cmd}
use Rattle.cg_action.specs.declared.command.Cmd.TheVariants.{Put, Del, Inc, Cas, Move, Need}
use Rattle.cg_action.specs.declared.query.Query.{Query}
use Rattle.cg_action.specs.declared.query.Query.TheVariants.{Get, Keys, Count}
use Rattle.cg_action.specs.Print.{value_text, want_text, command_text, query_text, next_text, commands_text, update_text}
use Rattle.cg_schedule.specs.Print.{hex_glyph, hex_text, fill_text}
use Rattle.cg_schedule.specs.Limits.{IsQuery, IsUpdate, AreBytes}
use Rattle.cg_schedule.proofs.TokenParts.{TextFacts, IsValue, IsWant}
use Rattle.cg_schedule.proofs.MemberParts.{decimal-digits}
use Rattle.cg_schedule.proofs.CommandParts.{IsCommand, command_tokens, query_tokens}
use Rattle.cg_schedule.proofs.UpdateParts.{next_tokens, commands_tokens, update_tokens}
use Rattle.cg_schedule.proofs.QuotedUtf8.{is_ascii, IsUtf8-ascii, IsUtf8-quoted}
use Rattle.cg_base.specs.EachLaws.{list_all_kept_by}

-- what is known of the tokens of a line
pub record TokenFacts : Type 0 where
  pub none : tokens [] ≡ []
  pub blank : (byte : ℕ) (rest : List ℕ) → is_blank byte ≡ true → tokens (byte ∷ rest) ≡ tokens rest
  pub separator : (byte : ℕ) (rest : List ℕ) → is_separator byte ≡ true → tokens (byte ∷ rest) ≡ (byte ∷ []) ∷ tokens rest
  pub word : (word rest : List ℕ) → is_word word ≡ true → ends_word rest ≡ true → tokens (word ++ rest) ≡ word ∷ tokens rest
  pub quotes : (text rest : List ℕ) → tokens (quoted text ++ rest) ≡ quoted text ∷ tokens rest

-- a text with its tokens, whatever ends its last word
pub record IsLine (text : List ℕ) (ts : List (List ℕ)) : Type 0 where
  pub split : (rest : List ℕ) → ends_word rest ≡ true → tokens (text ++ rest) ≡ ts ++ tokens rest
  pub utf8 : IsUtf8 text

-- ---- how texts are joined

pub line_word : TokenFacts → (word : List ℕ) → is_word word ≡ true → list_all is_ascii word ≡ true → IsLine word (word ∷ [])
line_word facts word marks ascii = record { split = λ rest ends. facts.word word rest marks ends; utf8 = IsUtf8-ascii word ascii }

line_quoted : TokenFacts → (t : List ℕ) → IsUtf8 t → IsLine (quoted t) (quoted t ∷ [])
line_quoted facts t utf8 = record { split = λ rest ends. facts.quotes t rest; utf8 = IsUtf8-quoted t utf8 }

-- one text behind the other, with marks between them that are these tokens
joined : (marks : List ℕ) (between : List (List ℕ)) (a b : List ℕ) (ta tb : List (List ℕ)) → ((rest : List ℕ) → ends_word (marks ++ rest) ≡ true) → ((rest : List ℕ) → tokens (marks ++ rest) ≡ between ++ tokens rest) → list_all is_ascii marks ≡ true
    → IsLine a ta → IsLine b tb → IsLine (a ++ (marks ++ b)) (ta ++ (between ++ tb))
joined marks between a b ta tb ends known ascii x y = record {
  split = λ rest e.
      let grouped : (a ++ (marks ++ b)) ++ rest ≡ a ++ (marks ++ (b ++ rest)) = append_assoc a (marks ++ b) rest ∙ ap (λ (t : List ℕ). a ++ t) (append_assoc marks b rest) in
      let regrouped : ta ++ (between ++ (tb ++ tokens rest)) ≡ (ta ++ (between ++ tb)) ++ tokens rest = ap (λ (t : List (List ℕ)). ta ++ t) (sym (append_assoc between tb (tokens rest))) ∙ sym (append_assoc ta (between ++ tb) (tokens rest)) in
      ap tokens grouped ∙ x.split (marks ++ (b ++ rest)) (ends (b ++ rest)) ∙ ap (λ (t : List (List ℕ)). ta ++ t) (known (b ++ rest) ∙ ap (λ (t : List (List ℕ)). between ++ t) (y.split rest e)) ∙ regrouped;
  utf8 = IsUtf8-append a (marks ++ b) x.utf8 (IsUtf8-append marks b (IsUtf8-ascii marks ascii) y.utf8);
}

-- a blank between two
pub line_gap : TokenFacts → (a b : List ℕ) (ta tb : List (List ℕ)) → IsLine a ta → IsLine b tb → IsLine ((a ++ codes " ") ++ b) (ta ++ tb)
line_gap facts a b ta tb x y = rw (append_assoc a (codes " ") b) (joined (codes " ") [] a b ta tb (λ rest. refl) (λ rest. facts.blank 32 rest refl) refl x y)

-- a semicolon
line_semicolon : TokenFacts → (a b : List ℕ) (ta tb : List (List ℕ)) → IsLine a ta → IsLine b tb → IsLine (a ++ (codes "; " ++ b)) (ta ++ (codes ";" ∷ tb))
line_semicolon facts a b ta tb x y =
    joined (codes "; ") (codes ";" ∷ []) a b ta tb (λ rest. refl) (λ rest. facts.separator 59 (32 ∷ rest) refl ∙ ap (λ (t : List (List ℕ)). codes ";" ∷ t) (facts.blank 32 rest refl)) refl x y

-- a question mark between two, and in front
line_question : TokenFacts → (a b : List ℕ) (ta tb : List (List ℕ)) → IsLine a ta → IsLine b tb → IsLine ((a ++ codes " ? ") ++ b) (ta ++ (codes "?" ∷ tb))
line_question facts a b ta tb x y =
    rw (append_assoc a (codes " ? ") b) (joined (codes " ? ") (codes "?" ∷ []) a b ta tb (λ rest. refl) (λ rest. facts.blank 32 (63 ∷ 32 ∷ rest) refl ∙ facts.separator 63 (32 ∷ rest) refl ∙ ap (λ (t : List (List ℕ)). codes "?" ∷ t) (facts.blank 32 rest refl)) refl x y)

line_asked : TokenFacts → (b : List ℕ) (tb : List (List ℕ)) → IsLine b tb → IsLine (codes "? " ++ b) (codes "?" ∷ tb)
line_asked facts b tb y = record {
  split = λ rest e. facts.separator 63 (32 ∷ (b ++ rest)) refl ∙ ap (λ (t : List (List ℕ)). codes "?" ∷ t) (facts.blank 32 (b ++ rest) refl ∙ y.split rest e);
  utf8 = IsUtf8-append (codes "? ") b (IsUtf8-ascii (codes "? ") refl) y.utf8;
}

-- ---- words

no_mark : (byte : ℕ) → (byte ≡ 32 → ⊥) → (byte ≡ 9 → ⊥) → (byte ≡ 59 → ⊥) → (byte ≡ 63 → ⊥) → (byte ≡ 34 → ⊥) → not (is_mark byte) ≡ true
no_mark byte a b c d e = rw (ne_eqb byte 32 a, ne_eqb byte 9 b, ne_eqb byte 59 c, ne_eqb byte 63 d, ne_eqb byte 34 e) refl

abbrev stands_in_word : ℕ → Bool
stands_in_word byte = not (is_mark byte)

digit_stands : (byte : ℕ) → is_digit byte ≡ true → stands_in_word byte ≡ true
digit_stands byte e =
    let parts = and_parts (nat_le 48 byte) (nat_le byte 57) e in
    let low = leb-true 48 byte parts.0 in
    let high = leb-true byte 57 parts.1 in
    no_mark byte (λ f. absurd (omega arith)) (λ f. absurd (omega arith)) (λ f. absurd (omega arith)) (λ f. absurd (omega arith)) (λ f. absurd (omega arith))

digit_ascii : (byte : ℕ) → is_digit byte ≡ true → is_ascii byte ≡ true
digit_ascii byte e =
    let high = leb-true byte 57 (and_parts (nat_le 48 byte) (nat_le byte 57) e).1 in
    lt-ltb byte 128 (omega arith)

-- bytes that may stand in a word and are characters by themselves
record Stands (bytes : List ℕ) : Type 0 where
  marks : list_all stands_in_word bytes ≡ true
  ascii : list_all is_ascii bytes ≡ true

stands-digits : (bytes : List ℕ) → list_all is_digit bytes ≡ true → Stands bytes
stands-digits bytes e = record { marks = list_all_kept_by is_digit stands_in_word digit_stands bytes e; ascii = list_all_kept_by is_digit is_ascii digit_ascii bytes e }

stands-append : (a b : List ℕ) → Stands a → Stands b → Stands (a ++ b)
stands-append a b x y = record {
  marks = list_all-append stands_in_word a b ∙ and_from _ _ x.marks y.marks;
  ascii = list_all-append is_ascii a b ∙ and_from _ _ x.ascii y.ascii;
}

word_line : TokenFacts → (bytes : List ℕ) → 0 < length bytes → Stands bytes → IsLine bytes (bytes ∷ [])
word_line facts [] some stands = absurd (omega arith)
word_line facts (byte ∷ bytes) some stands = line_word facts (byte ∷ bytes) stands.marks stands.ascii

digits_stand : TextFacts → (n : ℕ) → n < 2 ^ 64 → Stands (decimal n)
digits_stand texts n small = stands-digits (decimal n) (decimal-digits texts n small).0

pub line_number : TokenFacts → TextFacts → (n : ℕ) → n < 2 ^ 64 → IsLine (decimal n) (decimal n ∷ [])
line_number facts texts n small = word_line facts (decimal n) (decimal-digits texts n small).1 (digits_stand texts n small)

line_signed : TokenFacts → TextFacts → (n : ℤ) → FitsSigned w64 n → IsLine (signed_decimal n) (signed_decimal n ∷ [])
line_signed facts texts (pos n) fits = line_number facts texts n (omega (arith, ints))
line_signed facts texts (negsuc n) fits =
    word_line facts (45 ∷ decimal (suc n)) (omega arith) (stands-append (45 ∷ []) (decimal (suc n)) (record { marks = refl; ascii = refl }) (digits_stand texts (suc n) (omega (arith, ints))))

longer : (a b : List ℕ) → 0 < length a → 0 < length (a ++ b)
longer [] b some = absurd (omega arith)
longer (x ∷ a) b some = omega arith

pub line_member : TokenFacts → TextFacts → (p weight : ℕ) → p ≤ 32 → weight ≤ 255 → IsLine (weighted_text p weight) (weighted_text p weight ∷ [])
line_member facts texts p weight small light = by_weight (eqb weight 1) where
  by_weight : (b : Bool) → IsLine (decimal p ++ cond b [] (42 ∷ decimal weight)) ((decimal p ++ cond b [] (42 ∷ decimal weight)) ∷ [])
  by_weight true = rw (append-nil (decimal p)) (line_number facts texts p (omega arith))
  by_weight false =
      let some = (decimal-digits texts p (omega arith)).1 in
      let star : Stands (42 ∷ decimal weight) = stands-append (42 ∷ []) (decimal weight) (record { marks = refl; ascii = refl }) (digits_stand texts weight (omega arith)) in
      word_line facts (decimal p ++ 42 ∷ decimal weight) (longer (decimal p) (42 ∷ decimal weight) some) (stands-append (decimal p) (42 ∷ decimal weight) (digits_stand texts p (omega arith)) star)

-- ---- bytes of a stop

glyph_stands : (n : ℕ) → n < 16 → Stands (hex_glyph n ∷ [])
glyph_stands n small = by_size (ltb n 10) refl where
  by_size : (b : Bool) → ltb n 10 ≡ b → Stands (cond b (48 + n) (87 + n) ∷ [])
  by_size true e =
      let below = ltb-true n 10 e in
      record {
        marks = and_from _ _ (no_mark (48 + n) (λ f. absurd (omega arith)) (λ f. absurd (omega arith)) (λ f. absurd (omega arith)) (λ f. absurd (omega arith)) (λ f. absurd (omega arith))) refl;
        ascii = and_from _ _ (lt-ltb (48 + n) 128 (omega arith)) refl;
      }
  by_size false e =
      let above = ltb-false n 10 e in
      record {
        marks = and_from _ _ (no_mark (87 + n) (λ f. absurd (omega arith)) (λ f. absurd (omega arith)) (λ f. absurd (omega arith)) (λ f. absurd (omega arith)) (λ f. absurd (omega arith))) refl;
        ascii = and_from _ _ (lt-ltb (87 + n) 128 (omega arith)) refl;
      }

hex_stands : (bytes : List ℕ) → AreBytes bytes → Stands (flat_map hex_text bytes)
hex_stands [] are = record { marks = refl; ascii = refl }
hex_stands (byte ∷ bytes) are =
    let small = are.0 in
    stands-append (hex_text byte) (flat_map hex_text bytes) (stands-append (hex_glyph (byte / 16) ∷ []) (hex_glyph (byte % 16) ∷ []) (glyph_stands (byte / 16) (omega arith)) (glyph_stands (byte % 16) (omega arith))) (hex_stands bytes are.1)

pub line_fill : TokenFacts → (bytes : List ℕ) → AreBytes bytes → IsLine (fill_text bytes) (fill_text bytes ∷ [])
line_fill facts [] are = line_word facts (codes "-") refl refl
line_fill facts (byte ∷ bytes) are = word_line facts (flat_map hex_text (byte ∷ bytes)) (omega arith) (hex_stands (byte ∷ bytes) are)

-- ---- commands and queries

line_value : TokenFacts → TextFacts → (v : Value) → IsValue v → IsLine (value_text v) (value_text v ∷ [])
line_value facts texts (Text t) has = line_quoted facts t has.0
line_value facts texts (Int n) has = line_signed facts texts n has

line_want : TokenFacts → TextFacts → (o : Option Value) → IsWant o → IsLine (want_text o) (want_text o ∷ [])
line_want facts texts None has = line_word facts (codes "absent") refl refl
line_want facts texts (Some v) has = line_value facts texts v has

-- a word and a text between quotes
line_keyed : TokenFacts → (word key : List ℕ) → is_word word ≡ true → list_all is_ascii word ≡ true → IsUtf8 key → IsLine ((word ++ codes " ") ++ quoted key) ((word ∷ []) ++ (quoted key ∷ []))
line_keyed facts word key marks ascii utf8 = line_gap facts word (quoted key) (word ∷ []) (quoted key ∷ []) (line_word facts word marks ascii) (line_quoted facts key utf8)

line_command : TokenFacts → TextFacts → (cmd : Cmd) → IsCommand cmd → IsLine (command_text cmd) (command_tokens cmd)
unfolding command_tokens
line_command facts texts (Put key v) has = line_gap facts _ (value_text v) _ (value_text v ∷ []) (line_keyed facts (codes "put") key refl refl has.0.0) (line_value facts texts v has.1)
line_command facts texts (Del key) has = line_keyed facts (codes "del") key refl refl has.0
line_command facts texts (Inc key by) has = line_gap facts _ (signed_decimal by) _ (signed_decimal by ∷ []) (line_keyed facts (codes "inc") key refl refl has.0.0) (line_signed facts texts by has.1)
line_command facts texts (Cas key want v) has =
    line_gap facts _ (value_text v) _ (value_text v ∷ [])
    (line_gap facts _ (want_text want) _ (want_text want ∷ []) (line_keyed facts (codes "cas") key refl refl has.0.0) (line_want facts texts want has.1)) (line_value facts texts v has.2)
line_command facts texts (Move source target amount) has =
    line_gap facts _ (signed_decimal amount) _ (signed_decimal amount ∷ [])
    (line_gap facts _ (quoted target) _ (quoted target ∷ []) (line_keyed facts (codes "move") source refl refl has.0.0) (line_quoted facts target has.1.0)) (line_signed facts texts amount has.2)
line_command facts texts (Need key want) has = line_gap facts _ (want_text want) _ (want_text want ∷ []) (line_keyed facts (codes "need") key refl refl has.0.0) (line_want facts texts want has.1)

pub line_query : TokenFacts → (query : Query) → IsQuery query → IsLine (query_text query) (query_tokens query)
unfolding query_tokens
line_query facts (Get key) has = line_keyed facts (codes "get") key refl refl has.0
line_query facts (Keys prefix) has = line_keyed facts (codes "keys") prefix refl refl has.0
line_query facts Count has = line_word facts (codes "count") refl refl

line_next : TokenFacts → TextFacts → (a : List ℕ) (ta : List (List ℕ)) (cmds : List Cmd) → All IsCommand cmds → IsLine a ta → IsLine (a ++ flat_map next_text cmds) (ta ++ flat_map next_tokens cmds)
line_next facts texts a ta [] are x = rw (append-nil a, append-nil ta) x
line_next facts texts a ta (cmd ∷ cmds) are x =
    let one = line_semicolon facts a (command_text cmd) ta (command_tokens cmd) x (line_command facts texts cmd (All-head IsCommand cmd cmds are)) in
    let more = line_next facts texts (a ++ next_text cmd) (ta ++ next_tokens cmd) cmds (All-tail IsCommand cmd cmds are) one in
    rw (← append_assoc a (next_text cmd) (flat_map next_text cmds), ← append_assoc ta (next_tokens cmd) (flat_map next_tokens cmds)) more

line_commands : TokenFacts → TextFacts → (cmd : Cmd) (cmds : List Cmd) → All IsCommand (cmd ∷ cmds) → IsLine (commands_text (cmd ∷ cmds)) (commands_tokens (cmd ∷ cmds))
line_commands facts texts cmd cmds are = line_next facts texts (command_text cmd) (command_tokens cmd) cmds (All-tail IsCommand cmd cmds are) (line_command facts texts cmd (All-head IsCommand cmd cmds are))

pub line_update : TokenFacts → TextFacts → (cmds : List Cmd) (query : Option Query) → IsUpdate cmds query → IsLine (update_text cmds query) (update_tokens cmds query)
line_update facts texts [] None has = absurd (nothing has.does) where
  nothing : false ≡ true → ⊥
  nothing e = cc
line_update facts texts [] (Some query) has = line_asked facts (query_text query) (query_tokens query) (line_query facts query has.asks)
line_update facts texts (cmd ∷ cmds) None has = rw (append-nil (commands_tokens (cmd ∷ cmds))) (line_commands facts texts cmd cmds has.each)
line_update facts texts (cmd ∷ cmds) (Some query) has =
    line_question facts (commands_text (cmd ∷ cmds)) (query_text query) (commands_tokens (cmd ∷ cmds)) (query_tokens query) (line_commands facts texts cmd cmds has.each) (line_query facts query has.asks)

-- ---- lists of parts

-- each thing has this
abbrev pub Each : {X : Type 0} → (X → Type 0) → List X → Type 0
Each Has [] = Unit {0}
Each Has (x ∷ xs) = Has x × Each Has xs

pub line_parts : TokenFacts → {X : Type 0} (Has : X → Type 0) (text : X → List ℕ) → ((x : X) → Has x → IsLine (text x) (text x ∷ [])) → (a : List ℕ) (ta : List (List ℕ)) (xs : List X) → Each Has xs → IsLine a ta
    → IsLine (a ++ flat_map (λ (x : X). codes " " ++ text x) xs) (ta ++ map text xs)
line_parts facts Has text one a ta [] each l = rw (append-nil a, append-nil ta) l
line_parts facts {X} Has text one a ta (x ∷ xs) each l =
    let next = line_gap facts a (text x) ta (text x ∷ []) l (one x each.0) in
    let more = line_parts facts Has text one ((a ++ codes " ") ++ text x) (ta ++ text x ∷ []) xs each.1 next in
    let grouped : a ++ ((codes " " ++ text x) ++ flat_map (λ (y : X). codes " " ++ text y) xs) ≡ ((a ++ codes " ") ++ text x) ++ flat_map (λ (y : X). codes " " ++ text y) xs =
    sym (append_assoc a (codes " " ++ text x) (flat_map (λ (y : X). codes " " ++ text y) xs)) ∙ ap (λ (t : List ℕ). t ++ flat_map (λ (y : X). codes " " ++ text y) xs) (sym (append_assoc a (codes " ") (text x))) in
    rw (grouped, ← append_assoc ta (text x ∷ []) (map text xs)) more

pub ids_each : (low : ℕ) (set : List ℕ) → Ascends low set → Each (λ (p : ℕ). p ≤ 32) set
ids_each low [] ascends = tt
ids_each low (p ∷ set) ascends = (ascends.1, ids_each (suc p) set ascends.2)

pub members_each : (low : ℕ) (set : List Weighted) → Ascends low (members set) → Weigh set → Each (λ (m : Weighted). (m.id ≤ 32) × (m.weight ≤ 255)) set
members_each low [] ascends weigh = tt
members_each low (m ∷ set) ascends weigh = ((ascends.1, weigh.1), members_each (suc m.id) set ascends.2 weigh.2)
