-- A line reads as an event that asks for the relaxed database exactly where its tokens are those of the event's line.
use Rattle.std.proofs.Common.{◌≡◌, ℕ, Bool, true, false, cond, List, [], ◌∷◌, ◌++◌, Option, Some, None, Result, Ok, Err, refl, sym, ap, subst, ◌∙◌, append_assoc, append-nil, codes}
use Rattle.std.specs.Prelude.{decimal, option_map}
use Rattle.std.specs.Str.{is_utf8}
use Rattle.std.proofs.lemmas.Slice.Eq.{bytes_eq-Decides}
use Rattle.cg_base.specs.Sets.{IsId}
use Rattle.cg_text.specs.Order.{same_text}
use Rattle.cg_text.specs.Quoted.{quoted}
use Rattle.cg_text.specs.Tokens.{is_passed_over, tokens}
use Rattle.cg_schedule.specs.declared.fault.LineFault.{LineFault}
use Rattle.cg_schedule.specs.Command.{key_part}
use Rattle.cg_schedule.specs.Fault.{not_utf8}
use Rattle.cg_schedule.specs.Own.{some_read, after_word, tokens_reading}
use Rattle.cg_schedule.specs.Part.{id_part}
use Rattle.cg_schedule.specs.Reading.{done, whole, ◌>>=◌}
use Rattle.cg_made_rows.specs.declared.relaxed_event.RelaxedEvent.{RelaxedEvent}
use Rattle.cg_made_rows.specs.declared.relaxed_event.RelaxedEvent.TheVariants.{One, Both}
use Rattle.cg_made_rows.specs.declared.word.RelaxedWord.{RelaxedWord}
use Rattle.cg_made_rows.specs.declared.word.RelaxedWord.TheVariants.{Relaxed, Joined}
use Rattle.cg_made_rows.specs.Laws.{ReadsAs, ExactLines}
use Rattle.cg_made_rows.specs.Line.{word_of, one_reading, both_reading, event_reading, relaxed_reading}
use Rattle.cg_made_rows.proofs.Parts.{Known, behind_id, behind_key, from_id, from_key, id_token, word_token, key_token}
use Rattle.cg_base.specs.TextLaws.{blank_parts}

-- ---- how a line begins

abbrev text_of : RelaxedWord → List ℕ
text_of Relaxed = codes "relaxed"
text_of Joined = codes "joined"

record Opens (line : List ℕ) (word : RelaxedWord) (ts : List (List ℕ)) : Type 0 where
  stands : is_passed_over line ≡ false
  is_text : is_utf8 line ≡ true
  line_tokens : tokens line ≡ text_of word ∷ ts

record Opened (line : List ℕ) (e : RelaxedEvent) : Type 0 where
  word : RelaxedWord
  rest : List (List ℕ)
  opens : Opens line word rest
  reads : whole (event_reading word) rest ≡ Ok e

word_of-text : (text : List ℕ) (word : RelaxedWord) → word_of text ≡ Some word → text ≡ text_of word
unfolding word_of
word_of-text text word = first (same_text text (codes "relaxed")) refl where
  some : (a b : RelaxedWord) → Some a ≡ Some b → a ≡ b
  some a b e = cc

  is : (a : RelaxedWord) → same_text text (text_of a) ≡ true → Some a ≡ Some word → text ≡ text_of word
  is a same e = (bytes_eq-Decides text (text_of a)).0 same ∙ ap text_of (some a word e)

  second : (b : Bool) → same_text text (codes "joined") ≡ b → cond b (Some Joined) None ≡ Some word →
      text ≡ text_of word
  second true same e = is Joined same e
  second false same e = absurd cc

  first : (b : Bool) → same_text text (codes "relaxed") ≡ b →
      cond b (Some Relaxed) (cond (same_text text (codes "joined")) (Some Joined) None) ≡ Some word →
      text ≡ text_of word
  first true same e = is Relaxed same e
  first false same e = second (same_text text (codes "joined")) refl e

word_of-again : (word : RelaxedWord) → word_of (text_of word) ≡ Some word
unfolding word_of
word_of-again Relaxed = refl
word_of-again Joined = refl

opened : (line : List ℕ) (e : RelaxedEvent) → relaxed_reading line ≡ Ok (Some e) → Opened line e
unfolding relaxed_reading
opened line e = by_passed (is_passed_over line) refl where
  some_read-ok : (r : Result RelaxedEvent LineFault) → some_read r ≡ Ok (Some e) → r ≡ Ok e
  some_read-ok (Ok a) f = cc
  some_read-ok (Err fault) f = absurd cc

  by_text : (text : List ℕ) (rest : List (List ℕ)) (word : RelaxedWord) (b : Bool) → is_passed_over line ≡ false →
      tokens line ≡ text ∷ rest → word_of text ≡ Some word
      → is_utf8 line ≡ b → cond b (some_read (whole (event_reading word) rest)) (Err not_utf8) ≡ Ok (Some e) →
      Opened line e
  by_text text rest word true stands same is utf8 f = record {
    word = word;
    rest = rest;
    reads = some_read-ok (whole (event_reading word) rest) f;
    opens = record {
      stands = stands;
      is_text = utf8;
      line_tokens = same
          ∙ ap (λ (t : List ℕ). t ∷ rest) (word_of-text text word is);
    };
  }
  by_text text rest word false stands same is utf8 f = absurd cc

  by_word : (text : List ℕ) (rest : List (List ℕ)) (o : Option RelaxedWord) → is_passed_over line ≡ false →
      tokens line ≡ text ∷ rest → word_of text ≡ o
      → after_word (is_utf8 line) (option_map event_reading o) rest ≡ Ok (Some e) → Opened line e
  by_word text rest None stands same is f = absurd cc
  by_word text rest (Some word) stands same is f = by_text text rest word (is_utf8 line) stands same is refl f

  by_tokens : (ts : List (List ℕ)) → is_passed_over line ≡ false → tokens line ≡ ts →
      tokens_reading (λ word. option_map event_reading (word_of word)) (is_utf8 line) ts ≡ Ok (Some e) → Opened line e
  by_tokens [] stands same f = absurd cc
  by_tokens (text ∷ rest) stands same f = by_word text rest (word_of text) stands same refl f

  by_passed : (b : Bool) → is_passed_over line ≡ b →
      cond b (Ok None) (tokens_reading (λ word. option_map event_reading (word_of word)) (is_utf8 line) (tokens line))
      ≡ Ok (Some e) → Opened line e
  by_passed true passed f = absurd cc
  by_passed false passed f = by_tokens (tokens line) passed refl f

reopened : (line : List ℕ) (e : RelaxedEvent) (word : RelaxedWord) (ts : List (List ℕ)) → Opens line word ts →
    whole (event_reading word) ts ≡ Ok e → relaxed_reading line ≡ Ok (Some e)
unfolding relaxed_reading
reopened line e word ts opens reads =
    rw (opens.stands, opens.line_tokens, word_of-again word, opens.is_text, reads) refl

-- ---- the parts behind the word

ended_done : (x e : RelaxedEvent) (left : List (List ℕ)) → whole (done x) left ≡ Ok e → (x ≡ e) × (left ≡ [])
ended_done x e [] f = (cc, refl)
ended_done x e (t ∷ left) f = absurd cc

abbrev one_key : ℕ → List ℕ → List ℕ
one_key p key = (decimal p ++ codes " ") ++ quoted key

abbrev two_and_key : ℕ → ℕ → List ℕ → List ℕ
two_and_key p q key = (((decimal p ++ codes " ") ++ decimal q) ++ codes " ") ++ quoted key

module _ (known : Known) where
  one_tokens : (p : ℕ) (key : List ℕ) → IsId p → tokens (one_key p key) ≡ decimal p ∷ quoted key ∷ []
  one_tokens p key has =
      ap tokens (append_assoc (decimal p) (codes " ") (quoted key)) ∙ id_token known p (quoted key) has
      ∙ ap (λ ts. decimal p ∷ ts) (ap tokens (sym (append-nil (quoted key))) ∙ key_token known key)

  two_tokens : (p q : ℕ) (key : List ℕ) → IsId p → IsId q →
      tokens (two_and_key p q key) ≡ decimal p ∷ decimal q ∷ quoted key ∷ []
  two_tokens p q key has also =
      ap tokens (blank_parts (decimal p) (decimal q) (quoted key)) ∙ id_token known p (one_key q key) has
      ∙ ap (λ ts. decimal p ∷ ts) (one_tokens q key also)

  -- ---- each event

  found : (line : List ℕ) (e : RelaxedEvent) (w : RelaxedWord) (ts : List (List ℕ)) → Opens line w ts →
      whole (event_reading w) ts ≡ Ok e → ReadsAs line e
  unfolding event_reading one_reading both_reading
  found line e Relaxed ts opens read =
      let n = behind_id known (λ p. key_part >>= λ key. done (One p key)) ts e read in
      let k = behind_key known (λ key. done (One n.part key)) n.left e n.rest in
      let end = ended_done (One n.part k.part) e k.left k.rest in
      let spelled : ts ≡ decimal n.part ∷ quoted k.part ∷ [] =
      n.first ∙ ap (λ us. decimal n.part ∷ us) (k.first ∙ ap (λ us. quoted k.part ∷ us) end.1) in
      subst (ReadsAs line) end.0 record {
        stands = opens.stands;
        is_text = opens.is_text;
        within = (n.within, k.within);
        same_tokens = opens.line_tokens
            ∙ ap (λ us. codes "relaxed" ∷ us) (spelled ∙ sym (one_tokens n.part k.part n.within))
            ∙ sym (word_token known (codes "relaxed") (one_key n.part k.part) refl);
      }
  found line e Joined ts opens read =
      let n = behind_id known (λ p. id_part >>= λ q. key_part >>= λ key. done (Both p q key)) ts e read in
      let m = behind_id known (λ q. key_part >>= λ key. done (Both n.part q key)) n.left e n.rest in
      let k = behind_key known (λ key. done (Both n.part m.part key)) m.left e m.rest in
      let end = ended_done (Both n.part m.part k.part) e k.left k.rest in
      let spelled : ts ≡ decimal n.part ∷ decimal m.part ∷ quoted k.part ∷ [] =
      n.first ∙ ap (λ us. decimal n.part ∷ us) (m.first
      ∙ ap (λ us. decimal m.part ∷ us) (k.first ∙ ap (λ us. quoted k.part ∷ us) end.1)) in
      subst (ReadsAs line) end.0 record {
        stands = opens.stands;
        is_text = opens.is_text;
        within = (n.within, (m.within, k.within));
        same_tokens = opens.line_tokens
            ∙ ap (λ us. codes "joined" ∷ us) (spelled ∙ sym (two_tokens n.part m.part k.part n.within m.within))
            ∙ sym (word_token known (codes "joined") (two_and_key n.part m.part k.part) refl);
      }

  again : (line : List ℕ) (e : RelaxedEvent) → ReadsAs line e → Opened line e
  unfolding event_reading one_reading both_reading
  again line (One p key) r = record {
    word = Relaxed;
    rest = decimal p ∷ quoted key ∷ [];
    opens = record {
      stands = r.stands;
      is_text = r.is_text;
      line_tokens = r.same_tokens ∙ word_token known (codes "relaxed") (one_key p key) refl
          ∙ ap (λ us. codes "relaxed" ∷ us) (one_tokens p key r.within.0);
    };
    reads = from_id known (λ p. key_part >>= λ key. done (One p key)) p (quoted key ∷ []) r.within.0
        ∙ from_key known (λ key. done (One p key)) key [] r.within.1;
  }
  again line (Both p q key) r = record {
    word = Joined;
    rest = decimal p ∷ decimal q ∷ quoted key ∷ [];
    opens = record {
      stands = r.stands;
      is_text = r.is_text;
      line_tokens = r.same_tokens ∙ word_token known (codes "joined") (two_and_key p q key) refl
          ∙ ap (λ us. codes "joined" ∷ us) (two_tokens p q key r.within.0 r.within.1.0);
    };
    reads = from_id known (λ p. id_part >>= λ q. key_part >>= λ key. done (Both p q key)) p
        (decimal q ∷ quoted key ∷ [])
        r.within.0
        ∙ from_id known (λ q. key_part >>= λ key. done (Both p q key)) q (quoted key ∷ []) r.within.1.0
        ∙ from_key known (λ key. done (Both p q key)) key [] r.within.1.1;
  }

  pub lines_exact : ExactLines
  lines_exact line e = (reads, read_again) where
    reads : relaxed_reading line ≡ Ok (Some e) → ReadsAs line e
    reads f = let o = opened line e f in found line e o.word o.rest o.opens o.reads

    read_again : ReadsAs line e → relaxed_reading line ≡ Ok (Some e)
    read_again r = let o = again line e r in reopened line e o.word o.rest o.opens o.reads
