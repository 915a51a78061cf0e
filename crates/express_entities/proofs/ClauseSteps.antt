-- The clauses of an entity, item by item and keyword by keyword.
use Rattle.std.proofs.Common.{◌≡◌, ◌<◌, true, false, List, [], ◌∷◌, ◌++◌, length, map, Option, Ok, Err, refl, sym, ap, ◌∙◌, subst, append_assoc, append-nil, arith}
use Rattle.std.proofs.lemmas.Bool.{false≢true}
use Rattle.parsing.specs.Tables.{lookaheads}
use Rattle.express_lexer.specs.declared.marks.Mark.TheVariants as marks
use Rattle.step_literals.specs.declared.literal.Word as literal
use Rattle.express_lexer.specs.Reading.{Reading, left}
use Rattle.express_syntax.specs.declared.keyword.Keyword.{Keyword}
use Rattle.express_syntax.specs.declared.keyword.Keyword.TheVariants as keywords
use Rattle.express_syntax.specs.declared.lexeme.Lexeme.{Lexeme}
use Rattle.express_syntax.specs.declared.lexeme.Lexeme.TheVariants as lexemes
use Rattle.express_syntax.specs.Words.{Word, keyword, name, mark, word_of}
use Rattle.express_syntax.specs.ExpressionViews.{capitals}
use Rattle.express_syntax.specs.Grammar.{depth_limit}
use Rattle.express_syntax.specs.declared.fault.SyntaxFault.{SyntaxFault}
use Rattle.express_syntax.specs.declared.fault.SyntaxFault.TheVariants as faults
use Rattle.express_entities.specs.declared.clauses.Boundary.{Boundary}
use Rattle.express_entities.specs.declared.clauses.Boundary.TheVariants as boundaries
use Rattle.express_entities.specs.declared.clauses.ClauseStart.{ClauseStart}
use Rattle.express_entities.specs.declared.clauses.ClauseStart.TheVariants as starts
use Rattle.express_syntax.specs.declared.tree.Attribute as code
use Rattle.express_syntax.specs.declared.tree.Attribute.TheVariants as attributes
use Rattle.express_syntax.specs.Schemas.{Attribute, own, redeclared, Explicit, Derived, Inverse, Unique, Rule}
use Rattle.express_syntax.specs.Views.{attribute_of}
use Rattle.express_syntax.specs.WrittenSchemas.{concatenated, words_of_attribute, words_of_clause, words_of_explicit, words_of_derived, words_of_inverse, words_of_unique, words_of_rule}
use Rattle.express_syntax.specs.Profile.{FitsExplicit, FitsDerived, FitsInverse, FitsUnique}
use Rattle.express_syntax.specs.Texts.{Lookahead, token, LocatedToken, Shows, ShowsAll}
use Rattle.express_syntax.specs.steps.Predict.{Symbol, Body, Clause, explicits, derived, inverses, uniques, behind_name, behind_attribute, redeclared_symbols, next, refused, is_keyword}
use Rattle.express_entities.specs.steps.EntityParts.{may_end, keyword_of, symbols_behind, behind_first, Begins, Stand, Ended, Clausal}
use Rattle.express_syntax.specs.steps.Steps.{StopsIn, Passes}
use Rattle.express_syntax.proofs.Looking.{keyword_met, stops_refused, shown_less, tokens_less, passes_within}
use Rattle.express_syntax.proofs.Taking.{passes_as, passes_join, passes_more, passes_token, stops_behind}
use Rattle.express_syntax.proofs.Lists.{every_push, joined_push, map_push}

-- a keyword that ends the clause
boundary_next : (c : Clause) (b : Boundary) → may_end c b ≡ true → next depth_limit (Body c)
    (token (keyword (keyword_of b))) ≡ Ok (symbols_behind b)
boundary_next c boundaries.Derive e = rw e refl
boundary_next c boundaries.Inverse e = rw e refl
boundary_next c boundaries.Unique e = rw e refl
boundary_next c boundaries.Where e = refl
boundary_next c boundaries.EndEntity e = refl

-- an attribute behind SELF
self_passes : (c : Clause) (s : LocatedToken) (old new : Reading) → Shows old s new → is_keyword keywords.SelfWord
    s.lookahead ≡ true → Passes (Body c ∷ []) (redeclared_symbols ++ (behind_attribute c ++ Body c ∷ [])) []
    (keyword keywords.SelfWord ∷ []) old new
self_passes c s old new h e = passes_token (Body c) (redeclared_symbols ++ (behind_attribute c ++ Body c ∷ []))
    (keyword keywords.SelfWord) s old new h (keyword_met keywords.SelfWord s.lookahead e) refl

-- a fault in an attribute after SELF
pub self_stops : (e : SyntaxFault) (c : Clause) (s : LocatedToken) (old new : Reading) → Shows old s new
    → is_keyword keywords.SelfWord s.lookahead ≡ true → StopsIn e redeclared_symbols [] new → StopsIn e (Body c ∷ []) []
    old
self_stops e c s old new h k g = stops_behind e redeclared_symbols (behind_attribute c ++ Body c ∷ [])
    (self_passes c s old new h k) g

behind_self : (c : Clause) (a : Attribute) (ws : List Word) → words_of_attribute a ≡ keyword keywords.SelfWord ∷ ws
    → behind_attribute c ≡ behind_first c a
behind_self c (own n) ws e = absurd cc
behind_self c (redeclared n m) ws e = refl

-- an attribute after SELF that is read
pub self_done : (c : Clause) (a : code.Attribute) (s : LocatedToken) (old mid new : Reading) → Shows old s mid
    → is_keyword keywords.SelfWord s.lookahead ≡ true
    → ((ws : List Word) × (words_of_attribute (attribute_of a) ≡ keyword keywords.SelfWord ∷ ws)
    × Passes redeclared_symbols [] [] ws mid new) → Begins c (starts.Attribute a) old new
self_done c a s old mid new h e g =
    let ws = g.0 in
    let P : List Symbol → Type 0 = λ ys. Passes (Body c ∷ []) (ys ++ Body c ∷ []) [] (keyword keywords.SelfWord ∷ ws)
    old new in
    passes_as (words_of_attribute (attribute_of a)) (sym g.1) (subst P (behind_self c (attribute_of a) ws g.1)
    (passes_join (self_passes c s old mid h e) (passes_more (behind_attribute c ++ Body c ∷ []) g.2)))

-- a name
pub name_begins : (c : Clause) (w : literal.Word) (s : LocatedToken) (old new : Reading) → Shows old s new
    → s.lookahead ≡ token (name (capitals w)) → Begins c (starts.Attribute (attributes.Unqualified w)) old new
name_begins c w s old new h e = passes_token (Body c) (behind_name c ++ Body c ∷ []) (name (capitals w)) s old new h e
    refl

-- a keyword that ends the clause
pub boundary_begins : (c : Clause) (k : Keyword) (b : Boundary) (s : LocatedToken) (old new : Reading) → Shows old s new
    → s.lookahead ≡ token (keyword k) → (k ≡ keyword_of b) × (may_end c b ≡ true) → Begins c (starts.Boundary b) old new
boundary_begins c k b s old new h e m = (
  m.1,
  passes_token (Body c) (symbols_behind b) (keyword (keyword_of b)) s old
      new h (e ∙ ap (λ j. token (keyword j)) m.0) (boundary_next c b m.1),
)

-- one that doesn't
pub keyword_stops : (e : SyntaxFault) (c : Clause) (k : Keyword) (s : LocatedToken) (old new : Reading)
    → Shows old s new → s.lookahead ≡ token (keyword k) → is_keyword keywords.SelfWord s.lookahead ≡ false
    → ((k ≡ keywords.SelfWord → ⊥) → next depth_limit (Body c) (token (keyword k)) ≡ Err (refused (token (keyword k))))
    → e ≡ faults.Fault (refused s.lookahead) s.place → StopsIn e (Body c ∷ []) [] old
keyword_stops e c k s old new h is not_own n q =
    let P : Lookahead → Type 0 = λ x. next depth_limit (Body c) x ≡ Err (refused x) in
    let other : k ≡ keywords.SelfWord → ⊥ = λ same. false≢true (sym not_own ∙ ap (is_keyword keywords.SelfWord)
    (is ∙ ap (λ j. token (keyword j)) same)) in
    stops_refused e (Body c) s old new h (subst P (sym is) (n other)) q

-- any other token
pub other_refused : (c : Clause) (l : Lexeme) → ((w : _) → l ≡ lexemes.Name w → ⊥)
    → ((k : _) → l ≡ lexemes.Keyword k → ⊥) → next depth_limit (Body c) (token (word_of l)) ≡ Err
    (refused (token (word_of l)))
other_refused c (lexemes.Name w) h g = absurd (h w refl)
other_refused c (lexemes.Keyword k) h g = absurd (g k refl)
other_refused c _ h g = refl

shown_some : (s : List LocatedToken) (w : Word) (ws : List Word) (old new : Reading) → ShowsAll old s new
    → lookaheads s ≡ map token (w ∷ ws) → length (left new) < length (left old)
shown_some [] w ws old new h e = absurd cc
shown_some (t ∷ s) w ws old new (mid, h, all) e =
    let first : t.lookahead ≡ token w = cc in
    let others : lookaheads s ≡ map token ws = cc in
    omega (arith, shown_less w t old mid h first, tokens_less s ws mid new all others)

attribute_passes : (ys zs : List Symbol) (a : Attribute) (old new : Reading) → Passes ys zs [] (words_of_attribute a)
    old new → length (left new) < length (left old)
attribute_passes ys zs (own n) old new h = shown_some h.shown (name n) [] old new h.shown_all h.words
attribute_passes ys zs (redeclared e n) old new h = shown_some h.shown (keyword keywords.SelfWord) (mark marks.Backslash
    ∷ name e ∷ mark marks.Dot ∷ name n ∷ []) old new h.shown_all h.words

-- an item of a clause leaves less of the text
pub item_less : (c : Clause) (a : code.Attribute) (us : List Symbol) (ws : List Word) (old mid new : Reading)
    → Begins c (starts.Attribute a) old mid → Passes us [] [] ws mid new → length (left new) < length (left old)
item_less c a us ws old mid new h g = omega (
  arith,
  attribute_passes (Body c ∷ []) (behind_first c (attribute_of a)
      ++ Body c ∷ []) (attribute_of a) old mid h,
  passes_within g,
)

-- what stands next, by another name
pub begins_as : (c : Clause) (f g : ClauseStart) (old new : Reading) → f ≡ g → Begins c f old new → Begins c g old new
begins_as c f g old new e h = let P : ClauseStart → Type 0 = λ x. Begins c x old new in subst P e h

-- where a name and SELF leave the same to come
pub first_same : (c : Clause) (a : code.Attribute) → behind_name c ≡ behind_attribute c
    → behind_attribute c ≡ behind_first c (attribute_of a)
first_same c (attributes.Unqualified w) e = sym e
first_same c (attributes.Redeclared n w) e = refl

-- one more item of a clause
stand_more : {A : Type 0} (c : Clause) (Fit : A → Type 0) (write : A → List Word) (xs : List A) (x : A)
    (us : List Symbol) (u : List Word) (old here mid new : Reading) → Stand c Fit write xs old here
    → Passes (Body c ∷ []) (us ++ Body c ∷ []) [] u here mid
    → Fit x × (ws : List Word) × (write x ≡ u ++ ws) × Passes us [] [] ws mid new → Stand c Fit write (xs ++ x ∷ []) old
    new
stand_more c Fit write xs x us u old here mid new h p g = record {
  fits = every_push Fit xs x h.fits g.0;
  passes = passes_as (concatenated (map write (xs ++ x ∷ []))) (ap (λ l. concatenated (map write xs) ++ l) (sym g.2)
      ∙ sym (joined_push write xs x)) (passes_join h.passes (passes_join p (passes_more (Body c ∷ []) g.3)));
}

-- one more item of a clause, in the program's values
pub stand_push : {M A : Type 0} (view : M → A) (c : Clause) (Fit : A → Type 0) (write : A → List Word) (ms ns : List M)
    (m : M) (a : code.Attribute) (us : List Symbol) (old here mid new : Reading) → ns ≡ ms ++ m ∷ []
    → us ≡ behind_first c (attribute_of a)
    → Stand c Fit write (map view ms) old here → Begins c (starts.Attribute a) here mid → Fit (view m)
    × (ws : List Word) × (write (view m) ≡ words_of_attribute (attribute_of a) ++ ws) × Passes us [] [] ws mid new
    → Stand c Fit write (map view ns) old new
stand_push {M} {A} view c Fit write ms ns m a us old here mid new e b h p g =
    let P : List A → Type 0 = λ xs. Stand c Fit write xs old new in
    let q : Passes (Body c ∷ []) (us ++ Body c ∷ []) [] (words_of_attribute (attribute_of a)) here mid = rw b p in
    subst P (sym (ap (map view) e ∙ map_push view ms m)) (stand_more c Fit write (map view ms) (view m) us
    (words_of_attribute (attribute_of a)) old here mid new h q g)

-- what stands next stops the clause
pub stand_stops_front : {A : Type 0} (e : SyntaxFault) (c : Clause) (Fit : A → Type 0) (write : A → List Word)
    (xs : List A) (old here : Reading) → Stand c Fit write xs old here → StopsIn e (Body c ∷ []) [] here
    → StopsIn e (Body c ∷ []) [] old
stand_stops_front e c Fit write xs old here h g = stops_behind e (Body c ∷ []) [] h.passes g

-- a fault after the first attribute of an item stops the clause
pub stand_stops_item : {A : Type 0} (e : SyntaxFault) (c : Clause) (Fit : A → Type 0) (write : A → List Word)
    (xs : List A) (a : code.Attribute) (us : List Symbol) (old here mid : Reading)
    → us ≡ behind_first c (attribute_of a)
    → Stand c Fit write xs old here → Begins c (starts.Attribute a) here mid → StopsIn e us [] mid
    → StopsIn e (Body c ∷ []) [] old
stand_stops_item e c Fit write xs a us old here mid b h p g =
    let q : Passes (Body c ∷ []) (us ++ Body c ∷ []) [] (words_of_attribute (attribute_of a)) here mid = rw b p in
    stops_behind e us (Body c ∷ []) (passes_join h.passes q) g

-- the keyword that ends the clause stands
pub stand_ended : {A : Type 0} (c : Clause) (Fit : A → Type 0) (write : A → List Word) (xs : List A) (b : Boundary)
    (old here new : Reading) → Stand c Fit write xs old here → Begins c (starts.Boundary b) here new
    → Ended c Fit write xs b old new
stand_ended c Fit write xs b old here new h g = record { fits = h.fits; ends = g.0; passes = passes_join h.passes g.1 }

-- a keyword that may stand behind all clauses of attributes and isn't WHERE
pub not_where : (b : Boundary) → may_end uniques b ≡ true → (b ≡ boundaries.Where → ⊥) → b ≡ boundaries.EndEntity
not_where boundaries.Where e h = absurd (h refl)
not_where boundaries.EndEntity e h = refl
not_where _ e h = absurd (false≢true e)

-- what stops behind what passes stops it all
pub stops_end : {ys zs : List Symbol} {ws : List Word} {old mid : Reading} (e : SyntaxFault)
    → Passes ys zs [] ws old mid → StopsIn e zs [] mid → StopsIn e ys [] old
stops_end {ys} {zs} {ws} {old} {mid} e h g = let P : List Symbol → Type 0 = λ us. Passes ys us [] ws old mid in
    stops_behind e zs [] (subst P (sym (append-nil zs)) h) g

-- a clause that may be absent, behind what stands before its keyword or another
clausal_join : {A : Type 0} {ys : List Symbol} (us : List Word) (c : Clause) (k : Keyword) (Fit : A → Type 0)
    (write : A → List Word) (xs : Option (List A)) (from to : Boundary) (old here new : Reading)
    → Passes ys (symbols_behind from) [] (us ++ keyword (keyword_of from) ∷ []) old here
    → Clausal c k Fit write xs from to here new → Passes ys (symbols_behind to) [] (us ++ words_of_clause k write xs
    ++ keyword (keyword_of to) ∷ []) old new
clausal_join us c k Fit write xs from to old here new h g =
    let last = keyword (keyword_of to) ∷ [] in
    passes_as (us ++ words_of_clause k write xs ++ last) (append_assoc us (keyword (keyword_of from) ∷ []) g.behind
    ∙ ap (λ l. us ++ l) g.words ∙ sym (append_assoc us (words_of_clause k write xs) last)) (passes_join h g.passes)

-- the rules, after what precedes their keyword
rules_join : {ys : List Symbol} (us vs last : List Word) (from : Boundary) (old here new : Reading)
    → Passes ys (symbols_behind from) [] (us ++ keyword (keyword_of from) ∷ []) old here
    → (ws : List Word) × (keyword (keyword_of from) ∷ ws ≡ vs ++ last) × Passes (symbols_behind from) [] [] ws here new
    → Passes ys [] [] (us ++ vs ++ last) old new
rules_join us vs last from old here new h g =
    passes_as (us ++ vs ++ last) (append_assoc us (keyword (keyword_of from) ∷ []) g.0 ∙ ap (λ l. us ++ l) g.1
    ∙ sym (append_assoc us vs last)) (passes_join h g.2)

-- clause behind clause
pub after_derived : {es : List Explicit} {ds : Option (List Derived)} {p q : Boundary} {old a b : Reading}
    → Ended explicits (FitsExplicit depth_limit) words_of_explicit es p old a → Clausal derived keywords.Derive
    (FitsDerived depth_limit) words_of_derived ds p q a b
    → Passes (Body explicits ∷ []) (symbols_behind q) [] (concatenated (map words_of_explicit es)
    ++ words_of_clause keywords.Derive words_of_derived ds ++ keyword (keyword_of q) ∷ []) old b
after_derived {es} {ds} {p} {q} {old} {a} {b} h g = clausal_join (concatenated (map words_of_explicit es)) derived
    keywords.Derive (FitsDerived depth_limit) words_of_derived ds p q old a b h.passes g

-- the clauses up to the inverse attributes
pub after_inverses : {es : List Explicit} {ds : Option (List Derived)} {ns : Option (List Inverse)} {p q r : Boundary}
    {old a b c : Reading} → Ended explicits (FitsExplicit depth_limit) words_of_explicit es p old a
    → Clausal derived keywords.Derive (FitsDerived depth_limit) words_of_derived ds p q a b
    → Clausal inverses keywords.Inverse (FitsInverse depth_limit) words_of_inverse ns q r b c
    → Passes (Body explicits ∷ []) (symbols_behind r) [] (concatenated (map words_of_explicit es)
    ++ words_of_clause keywords.Derive words_of_derived ds ++ words_of_clause keywords.Inverse words_of_inverse ns
    ++ keyword (keyword_of r) ∷ []) old c
after_inverses {es} {ds} {ns} {p} {q} {r} {old} {a} {b} {c} h g k =
    clausal_join (concatenated (map words_of_explicit es) ++ words_of_clause keywords.Derive words_of_derived ds) inverses
    keywords.Inverse (FitsInverse depth_limit) words_of_inverse ns q r old b c (after_derived h g) k

-- the clauses up to the uniqueness rules
pub after_uniques : {es : List Explicit} {ds : Option (List Derived)} {ns : Option (List Inverse)}
    {us : Option (List Unique)} {p q r s : Boundary} {old a b c d : Reading}
    → Ended explicits (FitsExplicit depth_limit) words_of_explicit es p old a → Clausal derived keywords.Derive
    (FitsDerived depth_limit) words_of_derived ds p q a b → Clausal inverses keywords.Inverse (FitsInverse depth_limit)
    words_of_inverse ns q r b c → Clausal uniques keywords.Unique FitsUnique words_of_unique us r s c d
    → Passes (Body explicits ∷ []) (symbols_behind s) []
    (concatenated (map words_of_explicit es) ++ words_of_clause keywords.Derive words_of_derived ds
    ++ words_of_clause keywords.Inverse words_of_inverse ns ++ words_of_clause keywords.Unique words_of_unique us
    ++ keyword (keyword_of s) ∷ []) old d
after_uniques {es} {ds} {ns} {us} {p} {q} {r} {s} {old} {a} {b} {c} {d} h g k j =
    let before = concatenated (map words_of_explicit es) ++ words_of_clause keywords.Derive words_of_derived ds
    ++ words_of_clause keywords.Inverse words_of_inverse ns in
    clausal_join before uniques keywords.Unique FitsUnique words_of_unique us r s old c d (after_inverses h g k) j

-- the clauses up to the end
pub after_rules : {es : List Explicit} {ds : Option (List Derived)} {ns : Option (List Inverse)}
    {us : Option (List Unique)} (rs : Option (List Rule)) {p q r s : Boundary} {old a b c d new : Reading}
    → Ended explicits (FitsExplicit depth_limit) words_of_explicit es p old a → Clausal derived keywords.Derive
    (FitsDerived depth_limit) words_of_derived ds p q a b → Clausal inverses keywords.Inverse (FitsInverse depth_limit)
    words_of_inverse ns q r b c → Clausal uniques keywords.Unique FitsUnique words_of_unique us r s c d
    → (ws : List Word) × (keyword (keyword_of s) ∷ ws ≡ words_of_clause keywords.Where words_of_rule rs
    ++ keyword keywords.EndEntity ∷ mark marks.Semicolon ∷ []) × Passes (symbols_behind s) [] [] ws d new
    → Passes (Body explicits ∷ []) [] []
    (concatenated (map words_of_explicit es) ++ words_of_clause keywords.Derive words_of_derived ds
    ++ words_of_clause keywords.Inverse words_of_inverse ns ++ words_of_clause keywords.Unique words_of_unique us
    ++ words_of_clause keywords.Where words_of_rule rs ++ keyword keywords.EndEntity ∷ mark marks.Semicolon ∷ [])
    old new
after_rules {es} {ds} {ns} {us} rs {p} {q} {r} {s} {old} {a} {b} {c} {d} {new} h g k j l =
    let before = concatenated (map words_of_explicit es) ++ words_of_clause keywords.Derive words_of_derived ds
    ++ words_of_clause keywords.Inverse words_of_inverse ns ++ words_of_clause keywords.Unique words_of_unique us in
    rules_join before (words_of_clause keywords.Where words_of_rule rs) (keyword keywords.EndEntity
    ∷ mark marks.Semicolon ∷ []) s old d new (after_uniques h g k j) l
