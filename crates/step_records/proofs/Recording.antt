-- Records and instances that are read and built.
use Rattle.std.proofs.Common.{◌≡◌, ℕ, ◌<◌, Bool, true, false, List, [], ◌∷◌, ◌++◌, length, take, drop, map, Result, Ok, Err, MatchResult, refl, sym, ap, ◌∙◌, subst, append_assoc, arith}
use Rattle.std.proofs.lemmas.List.{length-map, map-append, take_at, drop_at}
use Rattle.step_lexer.specs.declared.token.Mark.TheVariants.{Open, Close, Semicolon, Equals}
use Rattle.step_lexer.specs.declared.token.Token.{Token}
use Rattle.step_lexer.specs.Reading.{Reading, Takes, left}
use Rattle.step_literals.specs.declared.literal.Word as literal
use Rattle.step_records.specs.steps.Building.{Building, list_of}
use Rattle.step_records.specs.Cells.{all_of}
use Rattle.step_records.proofs.Parts.{trees_all}
use Rattle.step_records.specs.steps.Tokens.{leaf_tree}
use Rattle.step_structures.specs.declared.fault.TextFault.{TextFault}
use Rattle.step_structures.specs.declared.fault.TextFault.TheVariants as faults
use Rattle.step_structures.specs.Words.{keyword, mark, token, located}
use Rattle.step_structures.specs.Trees.{Tree, leaf, Record, internal, external, this, items_of_list, items_of_record, items_of_form}
use Rattle.step_structures.specs.Fits.{has_keyword}
use Rattle.step_structures.specs.steps.Predict.{Just, Body, PartialRecords, refused, is_mark, params_symbols, row_symbols}
use Rattle.step_records.specs.steps.Readers.{Progress, reading}
use Rattle.step_records.specs.steps.Steps.{StopsIn, Passes, PushesAll, PushesKeyword, PushesWord, TakesParams}
use Rattle.step_records.specs.Params.{trees_in}
use Rattle.step_records.specs.steps.Records.{texts_of, keywords_of, tree_of_record, trees_of_form, TakesRecord, TakesPartial, TakesPartials, TakesForm, TakesRow}
use Rattle.step_records.proofs.Looking.{mark_met}
use Rattle.step_records.proofs.Pushing.{keyword_leaf, wrapped, wrapped_over, pushes_over}
use Rattle.step_records.proofs.RecordSteps.{Added, PartialRecordsSoFar, partial_done, partials_next, partials_done, partials_err_token, partials_err_partial, partials_empty, partials_smaller, form_internal, form_external, form_err_params, form_err_partials, row_done}

-- the record that trees behind a keyword make
abbrev pub record_with : List ℕ → List Tree → Record
record_with text xs = record { keyword = text; values = all_of xs }

pub partial_whole : (before : List (List ℕ)) (t : Token) (w : literal.Word) (m : ℕ) (old b d : Progress)
    → (located t).lookahead ≡ token (keyword w.text.now) → leaf_tree t ≡ leaf (keyword w.text.now)
    → has_keyword w.text.now before ≡ false → m ≡ length old.built.pending → TakesRecord 1 t old b
    → d ≡ record b { built = wrapped list_of m b.built } → TakesPartial before (located t) w old d
partial_whole before t w m old b d is key alone size h ed =
    let to : reading d ≡ reading b = ap reading ed in
    let made : d.built ≡ record old.built { pending = old.built.pending ++ list_of (leaf_tree t ∷ h.trees) ∷ [] } =
    ap (λ p. p.built) ed ∙ ap (wrapped list_of m) h.pushes
    ∙ wrapped_over list_of m old.built old.built.pending (leaf_tree t ∷ h.trees) size in
    let whole = partial_done before t (record_with w.text.now h.trees) (reading old) (reading b) is alone
    (h.fits, h.passes) in
    let P : Reading → Type 0 = λ r. Passes (PartialRecords before ∷ [])
    (PartialRecords (before ++ w.text.now ∷ []) ∷ []) (located t ∷ [])
    (items_of_record (record_with w.text.now h.trees)) (reading old) r in
    record {
      partial = record_with w.text.now h.trees;
      keyword_is = refl;
      pushes = made ∙ ap (λ k. record old.built { pending = old.built.pending ++ list_of (k ∷ h.trees) ∷ [] }) key;
      fits = whole.0;
      passes = subst P (sym to) whole.1;
    }

-- the partial records so far, which have these keywords
pub record PartialsSoFar (old now : Progress) (words : List literal.Word) : Type 0 where
  pub partials : List Record
  pub pushes : PushesAll old (map tree_of_record partials) now
  pub so : PartialRecordsSoFar (reading old) partials (reading now)
  pub same : texts_of words ≡ keywords_of partials

pub partials_go_on : (old here a b : Progress) (t : Token) (w : literal.Word) (ws : List literal.Word)
    → PartialsSoFar old here ws → Takes (reading here) t (reading a) → a.built ≡ here.built
    → TakesPartial (texts_of ws) (located t) w a b → PartialsSoFar old b (ws ++ w ∷ [])
partials_go_on old here a b t w ws s h e v =
    let ps = s.partials in
    let p = v.partial in
    let more : b.built ≡ record old.built {
      pending = (old.built.pending ++ map tree_of_record ps)
          ++ tree_of_record p ∷ [];
    } =
    v.pushes ∙ pushes_over a.built (record old.built { pending = old.built.pending ++ map tree_of_record ps })
    (tree_of_record p ∷ []) (e ∙ s.pushes) in
    let joined : (old.built.pending ++ map tree_of_record ps) ++ tree_of_record p ∷ []
    ≡ old.built.pending ++ map tree_of_record (ps ++ p ∷ []) =
    append_assoc old.built.pending (map tree_of_record ps) (tree_of_record p ∷ [])
    ∙ ap (λ l. old.built.pending ++ l) (sym (map-append tree_of_record ps (p ∷ []))) in
    let P : List (List ℕ) → Type 0 = λ l. PartialAdded l in
    record {
      partials = ps ++ p ∷ [];
      pushes = more ∙ (λ i. record old.built { pending = joined i });
      so = partials_next (reading old) ps (reading here) t (reading a) p (reading b) s.so h
          (subst P s.same (v.fits, v.passes));
      same = map-append (λ (x : literal.Word). x.text.now) ws (w ∷ []) ∙ (λ i. s.same i ++ v.keyword_is i ∷ [])
          ∙ sym (map-append (λ (x : Record). x.keyword) ps (p ∷ []));
    }
  where
    PartialAdded : List (List ℕ) → Type 0
    PartialAdded l = Added l t (reading a) v.partial (reading b)

-- as many keywords as partial records
pub as_many : (old now : Progress) (ws : List literal.Word) (s : PartialsSoFar old now ws)
    → length s.partials ≡ length ws
as_many old now ws s =
    sym (length-map s.partials (λ (p : Record). p.keyword)) ∙ ap length (sym s.same)
    ∙ length-map ws (λ (w : literal.Word). w.text.now)

pub partials_end : (old here a : Progress) (t : Token) (ws : List literal.Word) → PartialsSoFar old here ws
    → Takes (reading here) t (reading a) → a.built ≡ here.built → is_mark Close (located t).lookahead ≡ true
    → 0 < length ws → TakesPartials old a
partials_end old here a t ws s h e c some =
    let n = as_many old here ws s in
    let whole = partials_done (reading old) s.partials (reading here) t (reading a) s.so h c (omega (arith, n, some)) in
    record { partials = s.partials; pushes = e ∙ s.pushes; fits = whole.0; passes = whole.1 }

pub form_partials : {M : Type 0} (r : Result M TextFault) (t : Token) (old a b : Progress)
    → Takes (reading old) t (reading a) → a.built ≡ old.built → is_mark Open (located t).lookahead ≡ true
    → MatchResult r (λ _. TakesPartials a b) (λ e. StopsIn e (PartialRecords [] ∷ []) [] (reading a))
    → MatchResult r (λ _. TakesForm old b) (λ e. StopsIn e (Body ∷ []) [] (reading old))
form_partials (Ok x) t old a b h e o v =
    let whole = form_external t v.partials (reading old) (reading a) (reading b) h
    (mark_met Open (located t).lookahead o) (v.fits, v.passes) in
    record {
      form = external v.partials;
      pushes = v.pushes ∙ pushes_over a.built old.built (map tree_of_record v.partials) e;
      fits = whole.0;
      passes = whole.1;
    }
form_partials (Err f) t old a b h e o v = form_err_partials f t (reading old) (reading a) h
    (mark_met Open (located t).lookahead o) v

pub form_record : {M : Type 0} (r : Result M TextFault) (t : Token) (text : List ℕ) (old a b : Progress)
    → Takes (reading old) t (reading a) → a.built ≡ old.built → (located t).lookahead ≡ token (keyword text)
    → leaf_tree t ≡ leaf (keyword text)
    → MatchResult r (λ _. TakesRecord 0 t a b) (λ e. StopsIn e (params_symbols 0) [] (reading a))
    → MatchResult r (λ _. TakesForm old b) (λ e. StopsIn e (Body ∷ []) [] (reading old))
form_record (Ok x) t text old a b h e is key v =
    let whole = form_internal t (record_with text v.trees) (reading old) (reading a) (reading b) h is
    (v.fits, v.passes) in
    let trees : leaf_tree t ∷ v.trees ≡ leaf (keyword text) ∷ trees_in (all_of v.trees) =
    λ i. key i ∷ sym (trees_all v.trees) i in
    record {
      form = internal (record_with text v.trees);
      pushes = v.pushes ∙ pushes_over a.built old.built (leaf_tree t ∷ v.trees) e
          ∙ (λ i. record old.built { pending = old.built.pending ++ trees i });
      fits = whole.0;
      passes = whole.1;
    }
form_record (Err f) t text old a b h e is key v = form_err_params f t text (reading old) (reading a) h is v

-- the same where the keyword is pending already
pub pushed_record : (old a b : Progress) (h : PushesKeyword old a) → TakesParams 0 a b
    → TakesRecord 0 h.token (record old { place = a.place }) b
pushed_record old a b h v =
    let same : reading a ≡ reading (record old { place = a.place }) =
    ap (λ (x : Building). reading (record { place = a.place; built = x })) h.pushes in
    record {
      trees = v.trees;
      pushes = v.pushes ∙ ap (λ (x : Building). record x { pending = x.pending ++ v.trees }) h.pushes
          ∙ ap (λ l. record old.built { pending = l })
          (append_assoc old.built.pending (leaf_tree h.token ∷ []) v.trees);
      fits = v.fits;
      passes = subst (λ r. Passes (params_symbols 0) [] [] (this (mark Open) ∷ items_of_list (all_of v.trees)) r
          (reading b)) same v.passes;
    }

pub form_pushed : {M : Type 0} (r : Result M TextFault) (old a b : Progress) → PushesKeyword old a
    → MatchResult r (λ _. TakesParams 0 a b) (λ e. StopsIn e (params_symbols 0) [] (reading a))
    → MatchResult r (λ _. TakesForm old b) (λ e. StopsIn e (Body ∷ []) [] (reading old))
form_pushed r old a b h v =
    let mid : Progress = record old { place = a.place } in
    let same : reading a ≡ reading mid =
    ap (λ (x : Building). reading (record { place = a.place; built = x })) h.pushes in
    let key = keyword_leaf h.token.sort h.token.text.now h.is in
    form_record r h.token key.0 old mid b (subst (λ x. Takes (reading old) h.token x) same h.taken) refl
    (ap token key.1) (ap leaf key.1) (record_pushed r v)
  where
    record_pushed : {M : Type 0} (r : Result M TextFault)
        → MatchResult r (λ _. TakesParams 0 a b) (λ e. StopsIn e (params_symbols 0) [] (reading a))
        → MatchResult r (λ _. TakesRecord 0 h.token (record old { place = a.place }) b)
        (λ e. StopsIn e (params_symbols 0) [] (reading (record old { place = a.place })))
    record_pushed (Ok x) v = pushed_record old a b h v
    record_pushed (Err f) v = subst (λ x. StopsIn f (params_symbols 0) [] x)
        (ap (λ (x : Building). reading (record { place = a.place; built = x })) h.pushes) v

pub word_pushed : (is : Bool) (old new : Progress) → is ≡ true → PushesWord is old new → PushesKeyword old new
word_pushed true old new e h = h
word_pushed false old new e h = absurd (cc)

pub no_word : (is : Bool) (old new : Progress) → is ≡ false → PushesWord is old new → new ≡ old
no_word false old new e h = h
no_word true old new e h = absurd (cc)

-- what is pending behind a mark is kept as one list
abbrev pub with_kept : ℕ → Progress → Progress
with_kept m c = record c {
  built = record c.built {
    kept = c.built.kept ++ list_of (drop m c.built.pending) ∷ [];
    pending = take m c.built.pending;
  };
}

pub kept_list : (m : ℕ) (old c d : Progress) (ts : List Tree) → m ≡ length old.built.pending → PushesAll old ts c
    → d ≡ with_kept m c
    → (d.built ≡ record old.built { kept = old.built.kept ++ list_of ts ∷ [] }) × (reading d ≡ reading c)
kept_list m old c d ts size h ed =
    let ps = old.built.pending in
    let front : take m (ps ++ ts) ≡ ps = take_at ps ts m (sym size) in
    let rest : drop m (ps ++ ts) ≡ ts = drop_at ps ts m (sym size) in
    let made : d.built ≡ record old.built {
      kept = old.built.kept ++ list_of (drop m (ps ++ ts)) ∷ [];
      pending = take m (ps ++ ts);
    } =
    ap (λ p. p.built) ed ∙ (λ i. record (h i) {
      kept = (h i).kept ++ list_of (drop m (h i).pending) ∷ [];
      pending = take m (h i).pending;
    }) in (
      made ∙ (λ i. record old.built { kept = old.built.kept ++ list_of (rest i) ∷ []; pending = front i }),
      ap reading ed,
    )

pub row_whole : (m : ℕ) (old a b c d : Progress) → m ≡ length old.built.pending → a.built ≡ old.built
    → Passes (Just Equals ∷ []) [] [] (this (mark Equals) ∷ []) (reading old) (reading a) → TakesForm a b
    → c.built ≡ b.built → Passes (Just Semicolon ∷ []) [] [] (this (mark Semicolon) ∷ []) (reading b) (reading c)
    → d ≡ with_kept m c → TakesRow old d
row_whole m old a b c d size e h v f g ed =
    let ts = trees_of_form v.form in
    let k = kept_list m old c d ts size (f ∙ v.pushes ∙ pushes_over a.built old.built ts e) ed in
    let whole = row_done v.form (reading old) (reading a) (reading b) (reading c) h (v.fits, v.passes) g in
    let P : Reading → Type 0 = λ r. Passes row_symbols [] [] (this (mark Equals) ∷ (items_of_form v.form
    ++ this (mark Semicolon) ∷ [])) (reading old) r in
    record { form = v.form; keeps = k.0; fits = whole.0; passes = subst P (sym k.1) whole.1 }

pub partials_err_read : (e : TextFault) (old here : Progress) (ws : List literal.Word) (s : PartialsSoFar old here ws)
    → StopsIn e (PartialRecords (keywords_of s.partials) ∷ []) [] (reading here)
    → StopsIn e (PartialRecords [] ∷ []) [] (reading old)
partials_err_read e old here ws s g = partials_err_token e (reading old) s.partials (reading here) s.so g

pub partials_err_one : (e : TextFault) (old here a : Progress) (t : Token) (ws : List literal.Word)
    → PartialsSoFar old here ws → Takes (reading here) t (reading a)
    → StopsIn e (PartialRecords (texts_of ws) ∷ []) (located t ∷ []) (reading a)
    → StopsIn e (PartialRecords [] ∷ []) [] (reading old)
partials_err_one e old here a t ws s h g =
    let P : List (List ℕ) → Type 0 = λ l. StopsIn e (PartialRecords l ∷ []) (located t ∷ []) (reading a) in
    partials_err_partial e (reading old) s.partials (reading here) t (reading a) s.so h (subst P s.same g)

pub partials_none : (e : TextFault) (old here a : Progress) (t : Token) (ws : List literal.Word)
    → PartialsSoFar old here ws → Takes (reading here) t (reading a) → is_mark Close (located t).lookahead ≡ true
    → length ws ≡ 0 → e ≡ faults.Fault (refused (located t).lookahead) t.place
    → StopsIn e (PartialRecords [] ∷ []) [] (reading old)
partials_none e old here a t ws s h c zero q =
    partials_empty e (reading old) s.partials (reading here) t (reading a) s.so h c (as_many old here ws s ∙ zero) q

pub partials_less : (here a b : Progress) (t : Token) (before : List (List ℕ)) (w : literal.Word)
    → Takes (reading here) t (reading a) → TakesPartial before (located t) w a b
    → length (left (reading b)) < length (left (reading here))
partials_less here a b t before w h v =
    partials_smaller (reading here) t (reading a) before v.partial (reading b) h (v.fits, v.passes)
