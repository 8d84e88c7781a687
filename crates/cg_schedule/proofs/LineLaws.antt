-- A line reads as an event exactly where its tokens are those of the event's printed line.
use Rattle.std.proofs.Common.{◌≡◌, ℕ, ◌^◌, ◌<◌, ◌≤◌, Bool, true, false, cond, List, [], ◌∷◌, ◌++◌, Option, Some, None, Result, Ok, Err, refl, sym, ap, ◌∙◌, arith, codes}
use Rattle.std.specs.Prelude.{decimal}
use Rattle.std.specs.Str.{is_utf8}
use Rattle.std.proofs.lemmas.List.{append-nil}
use Rattle.std.proofs.lemmas.Str.{is_utf8-from_IsUtf8}
use Rattle.cg_base.specs.declared.weighted.Weighted.{Weighted}
use Rattle.cg_text.specs.Order.{same_text}
use Rattle.cg_text.specs.Tokens.{tokens, is_passed_over}
use Rattle.cg_schedule.specs.declared.fault.LineFault.{LineFault}
use Rattle.cg_schedule.specs.declared.event.Event.{Event}
use Rattle.cg_schedule.specs.declared.event.Event.TheVariants as event
use Rattle.cg_schedule.specs.declared.word.Word.{Word}
use Rattle.cg_schedule.specs.declared.word.Word.TheVariants.{Start, Split, Merge, Request, Weak, Dirty, Order, Recover, Downgrade, Show, Gather, End, Receive, Deliver, Rounds, Stop, Fail, Join, Leave, Transfer}
use Rattle.cg_schedule.specs.declared.reader_state.ReaderState.{ReaderState}
use Rattle.cg_schedule.specs.Fault.{not_utf8, misplaced}
use Rattle.cg_schedule.specs.Reading.{whole}
use Rattle.cg_schedule.specs.Line.{word_text, every_word, word_of, event_word, fits, placed, opening_of, opening, event_reading, some_event, reading_behind}
use Rattle.cg_schedule.specs.Print.{line_of, fill_text}
use Rattle.cg_schedule.specs.Limits.{IsEvent}
use Rattle.cg_schedule.specs.Laws.{MayStand, ReadsAs, Reads}
use Rattle.cg_schedule.proofs.TokenParts.{TextFacts}
use Rattle.cg_schedule.proofs.SetParts.{member_text}
use Rattle.cg_schedule.proofs.EventParts.{event_parts, EventFound, event_found, event_again}
use Rattle.cg_schedule.proofs.LineTokens.{TokenFacts, IsLine, line_word, line_gap, line_number, line_member, line_fill, line_query, line_update, line_parts, ids_each, members_each}
use Rattle.cg_base.specs.ListLaws.{same_cons, same_rest}
use Rattle.cg_base.specs.FindLaws.{found_passes}
use Rattle.cg_text.specs.OrderLaws.{same_text-is}

-- ---- printed lines

-- the tokens of an event
abbrev pub event_tokens : Event → List (List ℕ)
event_tokens e = word_text (event_word e) ∷ event_parts e

-- a word and one number
one_number : TokenFacts → TextFacts → (word : List ℕ) (n : ℕ) → IsLine word (word ∷ []) → n < 2 ^ 64 → IsLine ((word ++ codes " ") ++ decimal n) ((word ∷ []) ++ (decimal n ∷ []))
one_number facts texts word n is small = line_gap facts word (decimal n) (word ∷ []) (decimal n ∷ []) is (line_number facts texts n small)

two_numbers : TokenFacts → TextFacts → (word : List ℕ) (n m : ℕ) → IsLine word (word ∷ []) → n < 2 ^ 64 → m < 2 ^ 64 → IsLine ((((word ++ codes " ") ++ decimal n) ++ codes " ") ++ decimal m) (((word ∷ []) ++ (decimal n ∷ [])) ++ (decimal m ∷ []))
two_numbers facts texts word n m is small also = line_gap facts ((word ++ codes " ") ++ decimal n) (decimal m) ((word ∷ []) ++ (decimal n ∷ [])) (decimal m ∷ []) (one_number facts texts word n is small) (line_number facts texts m also)

pub printed : TokenFacts → TextFacts → (e : Event) → IsEvent e → IsLine (line_of e) (event_tokens e)
unfolding event_parts
printed facts texts (event.Start set) has =
    line_parts facts (λ (m : Weighted). (m.id ≤ 32) × (m.weight ≤ 255)) member_text (λ m small. line_member facts texts m.id m.weight small.0 small.1) (codes "start") (codes "start" ∷ []) set (members_each 1 set has.ascends has.weigh) (line_word facts (codes "start") refl refl)
printed facts texts (event.Split set) has =
    line_parts facts (λ (p : ℕ). p ≤ 32) decimal (λ p small. line_number facts texts p (omega arith)) (codes "split") (codes "split" ∷ []) set (ids_each 1 set has.ascends) (line_word facts (codes "split") refl refl)
printed facts texts (event.Merge set) has =
    line_parts facts (λ (p : ℕ). p ≤ 32) decimal (λ p small. line_number facts texts p (omega arith)) (codes "merge") (codes "merge" ∷ []) set (ids_each 1 set has.ascends) (line_word facts (codes "merge") refl refl)
printed facts texts (event.Request p cmds query) has =
    let small = has.0.1 in
    line_gap facts _ _ _ _ (one_number facts texts (codes "request") p (line_word facts (codes "request") refl refl) (omega arith)) (line_update facts texts cmds query has.1)
printed facts texts (event.Weak p query) has =
    let small = has.0.1 in
    line_gap facts _ _ _ _ (one_number facts texts (codes "weak") p (line_word facts (codes "weak") refl refl) (omega arith)) (line_query facts query has.1)
printed facts texts (event.Dirty p query) has =
    let small = has.0.1 in
    line_gap facts _ _ _ _ (one_number facts texts (codes "dirty") p (line_word facts (codes "dirty") refl refl) (omega arith)) (line_query facts query has.1)
printed facts texts (event.Order p) has = one_number facts texts (codes "order") p (line_word facts (codes "order") refl refl) (omega (arith, has.1))
printed facts texts (event.Recover p) has = one_number facts texts (codes "recover") p (line_word facts (codes "recover") refl refl) (omega (arith, has.1))
printed facts texts (event.RecoverStopped p call fill) has =
    line_gap facts _ (fill_text fill) _ (fill_text fill ∷ []) (two_numbers facts texts (codes "recover") p call (line_word facts (codes "recover") refl refl) (omega (arith, has.0.1)) (omega (arith, has.1.0.1))) (line_fill facts fill has.1.1.0)
printed facts texts (event.Downgrade p) has = one_number facts texts (codes "downgrade") p (line_word facts (codes "downgrade") refl refl) (omega (arith, has.1))
printed facts texts (event.Show p) has = one_number facts texts (codes "show") p (line_word facts (codes "show") refl refl) (omega (arith, has.1))
printed facts texts event.ShowOrder has = line_gap facts (codes "show") (codes "order") (codes "show" ∷ []) (codes "order" ∷ []) (line_word facts (codes "show") refl refl) (line_word facts (codes "order") refl refl)
printed facts texts event.Gather has = line_word facts (codes "gather") refl refl
printed facts texts event.End has = line_word facts (codes "end") refl refl
printed facts texts (event.Receive p place) has = two_numbers facts texts (codes "receive") p place (line_word facts (codes "receive") refl refl) (omega (arith, has.0.1)) (omega (arith, has.1.1))
printed facts texts (event.Deliver p count) has = two_numbers facts texts (codes "deliver") p count (line_word facts (codes "deliver") refl refl) (omega (arith, has.0.1)) (omega (arith, has.1.1))
printed facts texts (event.Rounds count) has = one_number facts texts (codes "rounds") count (line_word facts (codes "rounds") refl refl) (omega (arith, has.1))
printed facts texts (event.Stop p call fill) has =
    line_gap facts _ (fill_text fill) _ (fill_text fill ∷ []) (two_numbers facts texts (codes "stop") p call (line_word facts (codes "stop") refl refl) (omega (arith, has.0.1)) (omega (arith, has.1.0.1))) (line_fill facts fill has.1.1.0)
printed facts texts (event.Fail p call) has = two_numbers facts texts (codes "fail") p call (line_word facts (codes "fail") refl refl) (omega (arith, has.0.1)) (omega (arith, has.1.1))
printed facts texts (event.Join p joiner weight) has =
    line_gap facts _ (member_text (record { id = joiner; weight = weight })) _ (member_text (record { id = joiner; weight = weight }) ∷ []) (one_number facts texts (codes "join") p (line_word facts (codes "join") refl refl) (omega (arith, has.0.1))) (line_member facts texts joiner weight has.1.0.1 has.1.1.1)
printed facts texts (event.Leave p server) has = two_numbers facts texts (codes "leave") p server (line_word facts (codes "leave") refl refl) (omega (arith, has.0.1)) (omega (arith, has.1.1))
printed facts texts (event.Transfer p joiner pieces) has =
    line_gap facts _ (decimal pieces) _ (decimal pieces ∷ []) (two_numbers facts texts (codes "transfer") p joiner (line_word facts (codes "transfer") refl refl) (omega (arith, has.0.1)) (omega (arith, has.1.0.1))) (line_number facts texts pieces (omega (arith, has.1.1.1)))

-- a printed line isn't passed over
printed_stands : (e : Event) → is_passed_over (line_of e) ≡ false
printed_stands (event.Start set) = refl
printed_stands (event.Split set) = refl
printed_stands (event.Merge set) = refl
printed_stands (event.Request p cmds query) = refl
printed_stands (event.Weak p query) = refl
printed_stands (event.Dirty p query) = refl
printed_stands (event.Order p) = refl
printed_stands (event.Recover p) = refl
printed_stands (event.RecoverStopped p call fill) = refl
printed_stands (event.Downgrade p) = refl
printed_stands (event.Show p) = refl
printed_stands event.ShowOrder = refl
printed_stands event.Gather = refl
printed_stands event.End = refl
printed_stands (event.Receive p place) = refl
printed_stands (event.Deliver p count) = refl
printed_stands (event.Rounds count) = refl
printed_stands (event.Stop p call fill) = refl
printed_stands (event.Fail p call) = refl
printed_stands (event.Join p joiner weight) = refl
printed_stands (event.Leave p server) = refl
printed_stands (event.Transfer p joiner pieces) = refl

-- its tokens
printed_tokens : TokenFacts → TextFacts → (e : Event) → IsEvent e → tokens (line_of e) ≡ event_tokens e
printed_tokens facts texts e has =
    let line = (printed facts texts e has).split [] refl in
    let none : tokens [] ≡ [] = facts.none in
    rw (append-nil (line_of e), none, append-nil (event_tokens e)) at line

-- ---- words

word_of-text : (text : List ℕ) (word : Word) → word_of text ≡ Some word → text ≡ word_text word
unfolding word_of
word_of-text text word e = sym (same_text-is (word_text word) text (found_passes (λ w. same_text (word_text w) text) every_word word e))

word_of-again : (word : Word) → word_of (word_text word) ≡ Some word
unfolding word_of
word_of-again Start = refl
word_of-again Split = refl
word_of-again Merge = refl
word_of-again Request = refl
word_of-again Weak = refl
word_of-again Dirty = refl
word_of-again Order = refl
word_of-again Recover = refl
word_of-again Downgrade = refl
word_of-again Show = refl
word_of-again Gather = refl
word_of-again End = refl
word_of-again Receive = refl
word_of-again Deliver = refl
word_of-again Rounds = refl
word_of-again Stop = refl
word_of-again Fail = refl
word_of-again Join = refl
word_of-again Leave = refl
word_of-again Transfer = refl

-- ---- how a line begins

abbrev Opened : Type 0
Opened = Result (Option (Word × List (List ℕ))) LineFault

abbrev opened : Word × List (List ℕ) → Opened
opened o = Ok (Some o)

placed-ok : (state : ReaderState) (rest : List (List ℕ)) (o : Option Word) (found : Word × List (List ℕ)) → placed state rest o ≡ opened found → (o ≡ Some found.0) × (rest ≡ found.1) × (fits state found.0 ≡ true)
placed-ok state rest None found e = absurd cc
placed-ok state rest (Some word) found e = by_place (fits state word) refl e where
  same : (a b : Word × List (List ℕ)) → opened a ≡ opened b → a ≡ b
  same a b f = cc

  by_place : (b : Bool) → fits state word ≡ b → cond b (opened (word, rest)) (Err misplaced) ≡ opened found → (Some word ≡ Some found.0) × (rest ≡ found.1) × (fits state found.0 ≡ true)
  by_place true t f =
      let is = same (word, rest) found f in
      let one : word ≡ found.0 = ap (λ (p : Word × List (List ℕ)). p.0) is in
      (ap (λ (w : Word). Some w) one, ap (λ (p : Word × List (List ℕ)). p.1) is, rw (← one) t)
  by_place false t f = absurd cc

record Opens (state : ReaderState) (line : List ℕ) (found : Word × List (List ℕ)) : Type 0 where
  stands : is_passed_over line ≡ false
  is_text : is_utf8 line ≡ true
  may_stand : fits state found.0 ≡ true
  line_tokens : tokens line ≡ word_text found.0 ∷ found.1

opening_of-ok : (state : ReaderState) (ts : List (List ℕ)) (found : Word × List (List ℕ)) → opening_of state ts ≡ opened found → (fits state found.0 ≡ true) × (ts ≡ word_text found.0 ∷ found.1)
opening_of-ok state [] found e = absurd cc
opening_of-ok state (token ∷ rest) found e =
    let g = placed-ok state rest (word_of token) found e in
    let text = word_of-text token found.0 g.0 in
    (g.2, same_cons token (word_text found.0) rest found.1 text g.1)

opening-ok : (state : ReaderState) (line : List ℕ) (found : Word × List (List ℕ)) → opening state line ≡ opened found → Opens state line found
unfolding opening
opening-ok state line found e = by_passed (is_passed_over line) refl e where
  by_text : (b : Bool) → is_utf8 line ≡ b → is_passed_over line ≡ false → cond b (opening_of state (tokens line)) (Err not_utf8) ≡ opened found → Opens state line found
  by_text true t stands f =
      let g = opening_of-ok state (tokens line) found f in
      record { stands = stands; is_text = t; may_stand = g.0; line_tokens = g.1 }
  by_text false t stands f = absurd cc

  by_passed : (b : Bool) → is_passed_over line ≡ b → cond b (Ok None) (cond (is_utf8 line) (opening_of state (tokens line)) (Err not_utf8)) ≡ opened found → Opens state line found
  by_passed true p f = absurd cc
  by_passed false p f = by_text (is_utf8 line) refl p f

opening-again : (state : ReaderState) (line : List ℕ) (word : Word) (rest : List (List ℕ)) → is_passed_over line ≡ false → is_utf8 line ≡ true → fits state word ≡ true → tokens line ≡ word_text word ∷ rest → opening state line ≡ opened (word, rest)
unfolding opening
opening-again state line word rest stands is_text may line_tokens = rw (stands, is_text, line_tokens, word_of-again word, may) refl

-- ---- the whole line

some_event-ok : (r : Result Event LineFault) (e : Event) → some_event r ≡ Ok (Some e) → r ≡ Ok e
some_event-ok (Ok x) e f = ap (λ (y : Event). Ok y) (same x e f) where
  same : (a b : Event) → some_event (Ok a) ≡ Ok (Some b) → a ≡ b
  same a b g = cc
some_event-ok (Err fault) e f = absurd cc

reading_behind-ok : (o : Opened) (e : Event) → reading_behind o ≡ Ok (Some e) → (found : Word × List (List ℕ)) × (o ≡ opened found) × (whole (event_reading found.0) found.1 ≡ Ok e)
reading_behind-ok (Ok None) e f = absurd cc
reading_behind-ok (Ok (Some found)) e f = (found, refl, some_event-ok (whole (event_reading found.0) found.1) e f)
reading_behind-ok (Err fault) e f = absurd cc

pub reads_into : TokenFacts → TextFacts → (state : ReaderState) (line : List ℕ) (e : Event) → Reads state line e → ReadsAs state line e
reads_into facts texts state line e f =
    let g = reading_behind-ok (opening state line) e f in
    let o = opening-ok state line g.0 g.1 in
    let k : EventFound g.0.0 g.0.1 e = event_found texts g.0.0 g.0.1 e g.2 in
    let spelled : word_text g.0.0 ∷ g.0.1 ≡ event_tokens e = same_cons (word_text g.0.0) (word_text (event_word e)) g.0.1 (event_parts e) (ap word_text (sym k.1)) k.2 in
    record {
      stands = o.stands;
      is_text = o.is_text;
      may_stand = ap (fits state) k.1 ∙ o.may_stand;
      within = k.0;
      same_tokens = o.line_tokens ∙ spelled ∙ sym (printed_tokens facts texts e k.0);
    }

pub reads_from : TokenFacts → TextFacts → (state : ReaderState) (line : List ℕ) (e : Event) → ReadsAs state line e → Reads state line e
reads_from facts texts state line e r =
    let ts : tokens line ≡ word_text (event_word e) ∷ event_parts e = r.same_tokens ∙ printed_tokens facts texts e r.within in
    rw (opening-again state line (event_word e) (event_parts e) r.stands r.is_text r.may_stand ts, event_again texts e r.within) refl

pub printed_reads : TokenFacts → TextFacts → (state : ReaderState) (e : Event) → IsEvent e → MayStand state e → Reads state (line_of e) e
printed_reads facts texts state e within may =
    reads_from facts texts state (line_of e) e record { stands = printed_stands e; is_text = is_utf8-from_IsUtf8 (line_of e) (printed facts texts e within).utf8; may_stand = may; within = within; same_tokens = refl }

pub parts_into : TokenFacts → TextFacts → (e : Event) (parts : List (List ℕ)) → whole (event_reading (event_word e)) parts ≡ Ok e → IsEvent e × (tokens (line_of e) ≡ word_text (event_word e) ∷ parts)
parts_into facts texts e parts f =
    let k : EventFound (event_word e) parts e = event_found texts (event_word e) parts e f in
    (k.0, printed_tokens facts texts e k.0 ∙ ap (λ ts. word_text (event_word e) ∷ ts) (sym k.2))

pub parts_from : TokenFacts → TextFacts → (e : Event) (parts : List (List ℕ)) → IsEvent e × (tokens (line_of e) ≡ word_text (event_word e) ∷ parts) → whole (event_reading (event_word e)) parts ≡ Ok e
parts_from facts texts e parts is =
    let same : event_parts e ≡ parts = same_rest (word_text (event_word e)) (event_parts e) parts (sym (printed_tokens facts texts e is.0) ∙ is.1) in
    rw (← same) (event_again texts e is.0)

-- the event of a line is that of its tokens
same_opening : (state there : ReaderState) (line other : List ℕ) (a b : Word × List (List ℕ)) → Opens state line a → Opens there other b → tokens line ≡ tokens other → (word_of (word_text a.0) ≡ word_of (word_text b.0)) × (a.1 ≡ b.1)
same_opening state there line other a b x y same =
    let e = sym x.line_tokens ∙ same ∙ y.line_tokens in
    (ap word_of (heads (word_text a.0) (word_text b.0) a.1 b.1 e), tails (word_text a.0) (word_text b.0) a.1 b.1 e)
  where
    heads : (t u : List ℕ) (l m : List (List ℕ)) → t ∷ l ≡ u ∷ m → t ≡ u
    heads t u l m f = cc

    tails : (t u : List ℕ) (l m : List (List ℕ)) → t ∷ l ≡ u ∷ m → l ≡ m
    tails t u l m f = cc

pub tokens_from : TokenFacts → TextFacts → (state there : ReaderState) (line other : List ℕ) (e f : Event) → Reads state line e → Reads there other f → e ≡ f → tokens line ≡ tokens other
tokens_from facts texts state there line other e f x y same =
    let a = reads_into facts texts state line e x in
    let b = reads_into facts texts there other f y in
    a.same_tokens ∙ ap (λ (v : Event). tokens (line_of v)) same ∙ sym b.same_tokens

some_same : (a b : Word) → Some a ≡ Some b → a ≡ b
some_same a b f = cc

abbrev read_event : Event → Result Event LineFault
read_event e = Ok e

same_event : (a b : Event) → read_event a ≡ read_event b → a ≡ b
same_event a b f = cc

pub event_from : (state there : ReaderState) (line other : List ℕ) (e f : Event) → Reads state line e → Reads there other f → tokens line ≡ tokens other → e ≡ f
event_from state there line other e f x y same =
    let g = reading_behind-ok (opening state line) e x in
    let h = reading_behind-ok (opening there other) f y in
    let k = same_opening state there line other g.0 h.0 (opening-ok state line g.0 g.1) (opening-ok there other h.0 h.1) same in
    let word : g.0.0 ≡ h.0.0 = some_same g.0.0 h.0.0 (sym (word_of-again g.0.0) ∙ k.0 ∙ word_of-again h.0.0) in
    let one : whole (event_reading g.0.0) g.0.1 ≡ whole (event_reading h.0.0) h.0.1 = ap (λ (w : Word). whole (event_reading w) g.0.1) word ∙ ap (λ (t : List (List ℕ)). whole (event_reading h.0.0) t) k.1 in
    same_event e f (sym g.2 ∙ one ∙ h.2)
