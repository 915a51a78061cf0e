-- Attributes, token by token.
use Rattle.std.proofs.Common.{◌≡◌, ℕ, true, false, Some, None, List, [], ◌∷◌, ◌++◌, map, Result, Ok, Err, MatchResult, length, ◌<◌, refl, sym, ap, ◌∙◌, append_assoc, arith}
use Rattle.express_lexer.specs.declared.marks.Mark.TheVariants as marks
use Rattle.express_lexer.specs.Reading.{Reading, left}
use Rattle.express_syntax.specs.declared.keyword.Keyword.{Keyword}
use Rattle.express_syntax.specs.declared.keyword.Keyword.TheVariants as keywords
use Rattle.express_syntax.specs.declared.lexeme.Lexeme.{Lexeme}
use Rattle.express_syntax.specs.declared.lexeme.Lexeme.TheVariants as lexemes
use Rattle.express_syntax.specs.Words.{Word, keyword, name, mark, word_of}
use Rattle.express_syntax.specs.Grammar.{depth_limit}
use Rattle.express_syntax.specs.declared.fault.SyntaxFault.{SyntaxFault}
use Rattle.express_syntax.specs.declared.fault.SyntaxFault.TheVariants as faults
use Rattle.express_syntax.specs.declared.tree.Attribute as code
use Rattle.express_syntax.specs.Schemas.{Attribute, own}
use Rattle.express_syntax.specs.WrittenSchemas.{with_commas, words_of_attribute, words_of_unique}
use Rattle.express_syntax.specs.Profile.{IsFilled}
use Rattle.express_syntax.specs.Views.{attribute_of}
use Rattle.express_syntax.specs.Texts.{Lookahead, token, LocatedToken, Shows}
use Rattle.express_syntax.specs.steps.Predict.{Symbol, AnAttribute, Explicits, OptionalDataType, Uniques, UniqueNamed, DataTypeThen, semicolon, BoundsOrOf, Id, Just, Inverted, Holder, redeclared_symbols, is_mark, is_keyword, next, refused}
use Rattle.express_syntax.specs.steps.Predict as predict
use Rattle.express_syntax.specs.steps.Steps.{Passes, StopsIn}
use Rattle.express_entities.specs.steps.Lists.{IsListed, Continues, ListsOn, UniqueOn}
use Rattle.express_syntax.proofs.Looking.{mark_met, keyword_met, stops_refused, shown_less, tokens_less}
use Rattle.express_syntax.proofs.Taking.{passes_as, passes_join, passes_more, passes_token, passes_taken, passes_then, passes_first, passes_other, stops_behind, stops_first, stops_here, stops_as}
use Rattle.express_syntax.proofs.Lists.{commas_push, filled_push}

-- an attribute that is redeclared, behind SELF
pub own_attribute : (r : Result code.Attribute SyntaxFault) (s : LocatedToken) (old mid new : Reading) → Shows old s mid
    → s.lookahead ≡ token (keyword keywords.SelfWord)
    → MatchResult r (λ a. (ws : List Word) × (words_of_attribute (attribute_of a) ≡ keyword keywords.SelfWord ∷ ws)
    × Passes redeclared_symbols [] [] ws mid new) (λ e. StopsIn e redeclared_symbols [] mid)
    → MatchResult r (λ a. Passes (AnAttribute ∷ []) [] [] (words_of_attribute (attribute_of a)) old new)
    (λ e. StopsIn e (AnAttribute ∷ []) [] old)
own_attribute (Ok a) s old mid new h is g = passes_as (words_of_attribute (attribute_of a)) (sym g.1)
    (passes_join (passes_token AnAttribute redeclared_symbols (keyword keywords.SelfWord) s old mid h is refl) g.2)
own_attribute (Err e) s old mid new h is g = stops_behind e redeclared_symbols []
    (passes_token AnAttribute redeclared_symbols (keyword keywords.SelfWord) s old mid h is refl) g

-- nothing is read
pub continues_here : (y : Symbol) (s : LocatedToken) (here : Reading) → Continues y s here [] s here
continues_here y s here = record { passes = λ zs us end h. h; stops = λ e h. h }

-- a comma and an attribute
pub continues_on : (y : Symbol) (first : LocatedToken) (old : Reading) (ws : List Word) (s : LocatedToken)
    (here : Reading) (us : List Word) (mid : Reading) (t : LocatedToken) (new : Reading) → IsListed y
    → Continues y first old ws s here
    → s.lookahead ≡ token (mark marks.Comma) → Passes (AnAttribute ∷ []) [] [] us here mid → Shows mid t new
    → Continues y first old (ws ++ mark marks.Comma ∷ us) t new
continues_on y first old ws s here us mid t new listed h is a shows =
    let comma = passes_taken y (AnAttribute ∷ y ∷ []) (mark marks.Comma) s here is listed in
    record {
      passes = λ zs vs end g.
          passes_as ((ws ++ mark marks.Comma ∷ us) ++ vs) (sym (append_assoc ws (mark marks.Comma ∷ us) vs))
          (h.passes zs (mark marks.Comma ∷ (us ++ vs)) end
          (passes_join comma (passes_join (passes_more (y ∷ []) a) (passes_first t mid shows g))));
      stops = λ e g. h.stops e (stops_behind e (y ∷ []) [] (passes_join comma (passes_more (y ∷ []) a))
          (stops_first e (y ∷ []) t shows g));
    }

-- a comma without an attribute after it
pub continues_attribute : (e : SyntaxFault) (y : Symbol) (first : LocatedToken) (old : Reading) (ws : List Word)
    (s : LocatedToken) (here : Reading) → IsListed y → Continues y first old ws s here
    → s.lookahead ≡ token (mark marks.Comma) → StopsIn e (AnAttribute ∷ []) [] here → StopsIn e (y ∷ []) (first ∷ [])
    old
continues_attribute e y first old ws s here listed h is g =
    h.stops e (stops_behind e (AnAttribute ∷ []) (y ∷ []) (passes_taken y (AnAttribute ∷ y ∷ []) (mark marks.Comma) s
    here is listed) g)

-- a comma and an attribute without a token after them
pub continues_end : (e : SyntaxFault) (y : Symbol) (first : LocatedToken) (old : Reading) (ws : List Word)
    (s : LocatedToken) (here : Reading) (us : List Word) (mid : Reading) → IsListed y → Continues y first old ws s here
    → s.lookahead ≡ token (mark marks.Comma) → Passes (AnAttribute ∷ []) [] [] us here mid → StopsIn e (y ∷ []) [] mid
    → StopsIn e (y ∷ []) (first ∷ []) old
continues_end e y first old ws s here us mid listed h is a g =
    h.stops e (stops_behind e (y ∷ []) []
    (passes_join (passes_taken y (AnAttribute ∷ y ∷ []) (mark marks.Comma) s here is listed)
    (passes_more (y ∷ []) a)) g)

-- the first alone
pub lists_first : (y : Symbol) (a : Attribute) (s : LocatedToken) (here : Reading) → ListsOn y a s here (a ∷ []) s here
lists_first y a s here = record { filled = tt; further = []; words = refl; goes_on = continues_here y s here }

-- the list with another attribute
pub lists_next : (y : Symbol) (a : Attribute) (first : LocatedToken) (old : Reading) (list : List Attribute)
    (s : LocatedToken) (here : Reading) (o : Attribute) (mid : Reading) (t : LocatedToken) (new : Reading) → IsListed y
    → ListsOn y a first old list s here
    → is_mark marks.Comma s.lookahead ≡ true → Passes (AnAttribute ∷ []) [] [] (words_of_attribute o) here mid
    → Shows mid t new → ListsOn y a first old (list ++ o ∷ []) t new
lists_next y a first old list s here o mid t new listed h is p shows = record {
  filled = filled_push list o;
  further = h.further ++ mark marks.Comma ∷ words_of_attribute o;
  words = commas_push words_of_attribute list o h.filled ∙ ap (λ l. l ++ mark marks.Comma ∷ words_of_attribute o)
      h.words ∙ append_assoc (words_of_attribute a) h.further (mark marks.Comma ∷ words_of_attribute o);
  goes_on = continues_on y first old h.further s here (words_of_attribute o) mid t new listed h.goes_on
      (mark_met marks.Comma s.lookahead is) p shows;
}

-- a comma in the list without an attribute after it
pub lists_stop : (e : SyntaxFault) (y : Symbol) (a : Attribute) (first : LocatedToken) (old : Reading)
    (list : List Attribute) (s : LocatedToken) (here : Reading) → IsListed y → ListsOn y a first old list s here
    → is_mark marks.Comma s.lookahead ≡ true → StopsIn e (AnAttribute ∷ []) [] here → StopsIn e (y ∷ []) (first ∷ [])
    old
lists_stop e y a first old list s here listed h is g = continues_attribute e y first old h.further s here listed
    h.goes_on (mark_met marks.Comma s.lookahead is) g

-- a comma and an attribute in the list without a token after them
pub lists_end : (e : SyntaxFault) (y : Symbol) (a : Attribute) (first : LocatedToken) (old : Reading)
    (list : List Attribute) (s : LocatedToken) (here : Reading) (o : Attribute) (mid : Reading) → IsListed y
    → ListsOn y a first old list s here
    → is_mark marks.Comma s.lookahead ≡ true → Passes (AnAttribute ∷ []) [] [] (words_of_attribute o) here mid
    → StopsIn e (y ∷ []) [] mid → StopsIn e (y ∷ []) (first ∷ []) old
lists_end e y a first old list s here o mid listed h is p g = continues_end e y first old h.further s here
    (words_of_attribute o) mid listed h.goes_on (mark_met marks.Comma s.lookahead is) p g

explicits_refused : (s : Lookahead) → is_mark marks.Comma s ≡ false → is_mark marks.Colon s ≡ false
    → next depth_limit Explicits s ≡ Err (refused s)
explicits_refused (token (mark marks.Comma)) h g = absurd cc
explicits_refused (token (mark marks.Colon)) h g = absurd cc
explicits_refused _ h g = refl

uniques_refused : (s : Lookahead) → is_mark marks.Comma s ≡ false → is_mark marks.Semicolon s ≡ false
    → next depth_limit Uniques s ≡ Err (refused s)
uniques_refused (token (mark marks.Comma)) h g = absurd cc
uniques_refused (token (mark marks.Semicolon)) h g = absurd cc
uniques_refused _ h g = refl

-- neither a comma nor a colon stands behind explicit attributes
pub explicit_refused : (e : SyntaxFault) (a : Attribute) (first : LocatedToken) (old mid : Reading)
    (list : List Attribute) (s : LocatedToken) (here : Reading) → Shows old first mid → ListsOn Explicits a first mid
    list s here
    → is_mark marks.Comma s.lookahead ≡ false → is_mark marks.Colon s.lookahead ≡ false
    → e ≡ faults.Fault (refused s.lookahead) s.place → StopsIn e (Explicits ∷ []) [] old
explicit_refused e a first old mid list s here shows h comma colon is = stops_first e (Explicits ∷ []) first shows
    (h.goes_on.stops e (stops_here e Explicits s here (explicits_refused s.lookahead comma colon) is))

-- a colon, and no data type
pub explicit_stop : (e : SyntaxFault) (a : Attribute) (first : LocatedToken) (old mid : Reading) (list : List Attribute)
    (s : LocatedToken) (here : Reading) → Shows old first mid → ListsOn Explicits a first mid list s here
    → is_mark marks.Colon s.lookahead ≡ true → StopsIn e (OptionalDataType ∷ []) [] here → StopsIn e (Explicits ∷ []) []
    old
explicit_stop e a first old mid list s here shows h colon g =
    stops_first e (Explicits ∷ []) first shows
    (h.goes_on.stops e (stops_behind e (OptionalDataType ∷ []) [] (passes_taken Explicits (OptionalDataType ∷ [])
    (mark marks.Colon) s here (mark_met marks.Colon s.lookahead colon) refl) g))

-- a colon and a data type
pub explicit_passes : (a : Attribute) (first : LocatedToken) (old mid : Reading) (list : List Attribute)
    (s : LocatedToken) (here : Reading) (us : List Word) (new : Reading) → Shows old first mid
    → (h : ListsOn Explicits a first mid list s here)
    → is_mark marks.Colon s.lookahead ≡ true → Passes (OptionalDataType ∷ []) [] [] us here new
    → Passes (Explicits ∷ []) [] [] (h.further ++ mark marks.Colon ∷ us) old new
explicit_passes a first old mid list s here us new shows h colon p =
    passes_first first old shows (h.goes_on.passes [] (mark marks.Colon ∷ us) new
    (passes_join (passes_taken Explicits (OptionalDataType ∷ []) (mark marks.Colon) s here
    (mark_met marks.Colon s.lookahead colon) refl) p))

-- the words of explicit attributes behind the first
pub explicit_words : (a : Attribute) (list : List Attribute) (further us : List Word)
    → with_commas (map words_of_attribute list) ≡ words_of_attribute a ++ further
    → with_commas (map words_of_attribute list) ++ mark marks.Colon ∷ us ≡ words_of_attribute a
    ++ (further ++ mark marks.Colon ∷ us)
explicit_words a list further us e = ap (λ l. l ++ mark marks.Colon ∷ us) e ∙ append_assoc (words_of_attribute a)
    further (mark marks.Colon ∷ us)

-- neither a comma nor a semicolon stands behind the attributes of a uniqueness rule
pub unique_refused : (e : SyntaxFault) (a : Attribute) (first : LocatedToken) (old : Reading) (list : List Attribute)
    (s : LocatedToken) (here : Reading) → ListsOn Uniques a first old list s here
    → is_mark marks.Comma s.lookahead ≡ false → is_mark marks.Semicolon s.lookahead ≡ false
    → e ≡ faults.Fault (refused s.lookahead) s.place → StopsIn e (Uniques ∷ []) (first ∷ []) old
unique_refused e a first old list s here h comma semi is =
    h.goes_on.stops e (stops_here e Uniques s here (uniques_refused s.lookahead comma semi) is)

-- a semicolon
pub unique_on : (a : Attribute) (first : LocatedToken) (old : Reading) (list : List Attribute) (s : LocatedToken)
    (here : Reading) → ListsOn Uniques a first old list s here → is_mark marks.Semicolon s.lookahead ≡ true
    → UniqueOn a first old list here
unique_on a first old list s here h is = record {
  filled = h.filled;
  further = h.further ++ mark marks.Semicolon ∷ [];
  words = ap (λ l. l ++ mark marks.Semicolon ∷ []) h.words ∙ append_assoc (words_of_attribute a) h.further
      (mark marks.Semicolon ∷ []);
  passes = h.goes_on.passes [] (mark marks.Semicolon ∷ []) here (passes_taken Uniques [] (mark marks.Semicolon) s here
      (mark_met marks.Semicolon s.lookahead is) refl);
}

-- a name that isn't the label of a uniqueness rule
pub named_as : (s : Lookahead) → is_mark marks.Colon s ≡ false → next depth_limit UniqueNamed s ≡ next depth_limit
    Uniques s
named_as (token (mark marks.Colon)) h = absurd cc
named_as _ h = refl

-- the attributes of a uniqueness rule, with the token behind the first
pub unique_behind : {A : Type 0} (view : A → List Attribute) (a : Attribute) (s : LocatedToken) (old mid : Reading)
    (r : Result A SyntaxFault) (new : Reading) → Shows old s mid
    → MatchResult r (λ l. UniqueOn a s mid (view l) new) (λ e. StopsIn e (Uniques ∷ []) (s ∷ []) mid)
    → MatchResult r (λ l. IsFilled (view l) × (ws : List Word) × (with_commas (map words_of_attribute (view l))
    ++ mark marks.Semicolon ∷ [] ≡ words_of_attribute a ++ ws) × Passes (Uniques ∷ []) [] [] ws old new)
    (λ e. StopsIn e (Uniques ∷ []) [] old)
unique_behind view a s old mid (Ok l) new shows h = (h.filled, h.further, h.words, passes_first s old shows h.passes)
unique_behind view a s old mid (Err e) new shows h = stops_first e (Uniques ∷ []) s shows h

-- a uniqueness rule with a label
pub labelled_passes : (n : List ℕ) (a : Attribute) (s : LocatedToken) (old mid : Reading) (list : List Attribute)
    (ws : List Word) (next : Reading) (new : Reading) → Shows old s mid → is_mark marks.Colon s.lookahead ≡ true
    → Passes (AnAttribute ∷ []) [] [] (words_of_attribute a) mid next
    → words_of_unique (record {
      label = None;
      attributes = list;
    }) ≡ words_of_attribute a ++ ws → Passes (Uniques ∷ []) [] [] ws next new
    → (vs : List Word) × (words_of_unique (record {
      label = Some n;
      attributes = list;
    }) ≡ name n ∷ vs) × Passes (UniqueNamed ∷ []) [] [] vs old new
labelled_passes n a s old mid list ws next new shows colon h e g = (
  mark marks.Colon ∷ (words_of_attribute a ++ ws),
  ap (λ l. name n ∷ mark marks.Colon ∷ l) e,
  passes_join (passes_token UniqueNamed (AnAttribute ∷ Uniques ∷ []) (mark marks.Colon) s old mid shows
      (mark_met marks.Colon s.lookahead colon) refl) (passes_then h g),
)

-- a uniqueness rule without a label, whose first attribute is a name
pub named_passes : (n : List ℕ) (s : LocatedToken) (old mid : Reading) (list : List Attribute) (new : Reading)
    → Shows old s mid → is_mark marks.Colon s.lookahead ≡ false → (h : UniqueOn (own n) s mid list new)
    → Passes (UniqueNamed ∷ []) [] [] h.further old new
named_passes n s old mid list new shows colon h = passes_first s old shows
    (passes_other UniqueNamed Uniques s (named_as s.lookahead colon) h.passes)

pub named_stops : (e : SyntaxFault) (s : LocatedToken) (old mid : Reading) → Shows old s mid
    → is_mark marks.Colon s.lookahead ≡ false → StopsIn e (Uniques ∷ []) (s ∷ []) mid → StopsIn e (UniqueNamed ∷ []) []
    old
named_stops e s old mid shows colon h = stops_first e (UniqueNamed ∷ []) s shows
    (stops_as e UniqueNamed Uniques s mid (named_as s.lookahead colon) h)

-- behind a label an attribute is to come, and others
pub labelled_stops : (e : SyntaxFault) (s : LocatedToken) (old mid : Reading) → Shows old s mid
    → is_mark marks.Colon s.lookahead ≡ true → StopsIn e (AnAttribute ∷ []) [] mid → StopsIn e (UniqueNamed ∷ []) [] old
labelled_stops e s old mid shows colon h = stops_behind e (AnAttribute ∷ []) (Uniques ∷ [])
    (passes_token UniqueNamed (AnAttribute ∷ Uniques ∷ []) (mark marks.Colon) s old mid shows
    (mark_met marks.Colon s.lookahead colon) refl) h

pub labelled_stops_behind : (e : SyntaxFault) (a : Attribute) (s : LocatedToken) (old mid next : Reading)
    → Shows old s mid → is_mark marks.Colon s.lookahead ≡ true → Passes (AnAttribute ∷ []) [] [] (words_of_attribute a)
    mid next → StopsIn e (Uniques ∷ []) [] next → StopsIn e (UniqueNamed ∷ []) [] old
labelled_stops_behind e a s old mid next shows colon h g =
    stops_behind e (Uniques ∷ []) [] (passes_join (passes_token UniqueNamed (AnAttribute ∷ Uniques ∷ [])
    (mark marks.Colon) s old mid shows (mark_met marks.Colon s.lookahead colon) refl)
    (passes_more (Uniques ∷ []) h)) g

-- OPTIONAL and a data type, or a data type
pub optional_passes : (s : LocatedToken) (old mid : Reading) (ws : List Word) (new : Reading) → Shows old s mid
    → is_keyword keywords.Optional s.lookahead ≡ true → Passes (DataTypeThen 0 semicolon ∷ []) [] [] ws mid new
    → Passes (OptionalDataType ∷ []) [] [] (keyword keywords.Optional ∷ ws) old new
optional_passes s old mid ws new shows is h = passes_join (passes_token OptionalDataType (DataTypeThen 0 semicolon ∷ [])
    (keyword keywords.Optional) s old mid shows (keyword_met keywords.Optional s.lookahead is) refl) h

pub optional_stops : (e : SyntaxFault) (s : LocatedToken) (old mid : Reading) → Shows old s mid
    → is_keyword keywords.Optional s.lookahead ≡ true → StopsIn e (DataTypeThen 0 semicolon ∷ []) [] mid
    → StopsIn e (OptionalDataType ∷ []) [] old
optional_stops e s old mid shows is h = stops_behind e (DataTypeThen 0 semicolon ∷ []) []
    (passes_token OptionalDataType (DataTypeThen 0 semicolon ∷ []) (keyword keywords.Optional) s old mid shows
    (keyword_met keywords.Optional s.lookahead is) refl) h

data_type_as : (s : Lookahead) → is_keyword keywords.Optional s ≡ false → next depth_limit OptionalDataType s ≡ next
    depth_limit (DataTypeThen 0 semicolon) s
data_type_as (token (keyword keywords.Optional)) h = absurd cc
data_type_as _ h = refl

-- where OPTIONAL doesn't stand
pub data_type_passes : (s : LocatedToken) (old mid : Reading) (ws : List Word) (new : Reading) → Shows old s mid
    → is_keyword keywords.Optional s.lookahead ≡ false → Passes (DataTypeThen 0 semicolon ∷ []) [] (s ∷ []) ws mid new
    → Passes (OptionalDataType ∷ []) [] [] ws old new
data_type_passes s old mid ws new shows is h = passes_first s old shows
    (passes_other OptionalDataType (DataTypeThen 0 semicolon) s (data_type_as s.lookahead is) h)

pub data_type_stops : (e : SyntaxFault) (s : LocatedToken) (old mid : Reading) → Shows old s mid
    → is_keyword keywords.Optional s.lookahead ≡ false → StopsIn e (DataTypeThen 0 semicolon ∷ []) (s ∷ []) mid
    → StopsIn e (OptionalDataType ∷ []) [] old
data_type_stops e s old mid shows is h = stops_first e (OptionalDataType ∷ []) s shows
    (stops_as e OptionalDataType (DataTypeThen 0 semicolon) s mid (data_type_as s.lookahead is) h)

-- behind SET or BAG: bounds or none, and the entity
pub grouped_passes : (k : Keyword) (s : LocatedToken) (old mid : Reading) (u : List Word) (next : Reading) (n : List ℕ)
    (new : Reading) → predict.next depth_limit Inverted (token (keyword k)) ≡ Ok (BoundsOrOf 0 ∷ Id ∷ [])
    → Shows old s mid → s.lookahead ≡ token (keyword k)
    → Passes (BoundsOrOf 0 ∷ []) [] [] (u ++ keyword keywords.Of ∷ []) mid next → Passes (Id ∷ []) [] [] (name n ∷ [])
    next new → Passes (Inverted ∷ []) [] [] ((keyword k ∷ (u ++ keyword keywords.Of ∷ [])) ++ name n ∷ []) old new
grouped_passes k s old mid u next n new e shows is h g =
    passes_join (passes_token Inverted (BoundsOrOf 0 ∷ Id ∷ []) (keyword k) s old mid shows is e) (passes_then h g)

pub grouped_stops : (e : SyntaxFault) (k : Keyword) (s : LocatedToken) (old mid : Reading) → predict.next depth_limit
    Inverted (token (keyword k)) ≡ Ok (BoundsOrOf 0 ∷ Id ∷ []) → Shows old s mid → s.lookahead ≡ token (keyword k)
    → StopsIn e (BoundsOrOf 0 ∷ []) [] mid → StopsIn e (Inverted ∷ []) [] old
grouped_stops e k s old mid n shows is h = stops_behind e (BoundsOrOf 0 ∷ []) (Id ∷ [])
    (passes_token Inverted (BoundsOrOf 0 ∷ Id ∷ []) (keyword k) s old mid shows is n) h

pub grouped_stops_behind : (e : SyntaxFault) (k : Keyword) (s : LocatedToken) (old mid : Reading) (u : List Word)
    (next : Reading) → predict.next depth_limit Inverted (token (keyword k)) ≡ Ok (BoundsOrOf 0 ∷ Id ∷ [])
    → Shows old s mid → s.lookahead ≡ token (keyword k)
    → Passes (BoundsOrOf 0 ∷ []) [] [] u mid next → StopsIn e (Id ∷ []) [] next → StopsIn e (Inverted ∷ []) [] old
grouped_stops_behind e k s old mid u next n shows is h g = stops_behind e (Id ∷ []) []
    (passes_join (passes_token Inverted (BoundsOrOf 0 ∷ Id ∷ []) (keyword k) s old mid shows is n)
    (passes_more (Id ∷ []) h)) g

holder_unmet : (s : Lookahead) → is_mark marks.Semicolon s ≡ false → is_mark marks.Dot s ≡ false
    → predict.next depth_limit Holder s ≡ Err (refused s)
holder_unmet (token (mark marks.Semicolon)) h g = absurd cc
holder_unmet (token (mark marks.Dot)) h g = absurd cc
holder_unmet _ h g = refl

-- neither a semicolon nor a dot stands behind the name that follows FOR
pub holder_refused : (e : SyntaxFault) (s : LocatedToken) (old mid : Reading) → Shows old s mid
    → is_mark marks.Semicolon s.lookahead ≡ false → is_mark marks.Dot s.lookahead ≡ false
    → e ≡ faults.Fault (refused s.lookahead) s.place → StopsIn e (Holder ∷ []) [] old
holder_refused e s old mid shows h g is = stops_refused e Holder s old mid shows (holder_unmet s.lookahead h g) is

-- the attribute that is inverted, and its entity
pub holder_passes : (s : LocatedToken) (old mid : Reading) (n : List ℕ) (next new : Reading) → Shows old s mid
    → is_mark marks.Dot s.lookahead ≡ true → Passes (Id ∷ []) [] [] (name n ∷ []) mid next
    → Passes (Just marks.Semicolon ∷ []) [] [] (mark marks.Semicolon ∷ []) next new
    → Passes (Holder ∷ []) [] [] (mark marks.Dot ∷ name n ∷ mark marks.Semicolon ∷ []) old new
holder_passes s old mid n next new shows is h g = passes_join (passes_token Holder (Id ∷ Just marks.Semicolon ∷ [])
    (mark marks.Dot) s old mid shows (mark_met marks.Dot s.lookahead is) refl) (passes_then h g)

pub holder_stops : (e : SyntaxFault) (s : LocatedToken) (old mid : Reading) → Shows old s mid
    → is_mark marks.Dot s.lookahead ≡ true → StopsIn e (Id ∷ []) [] mid → StopsIn e (Holder ∷ []) [] old
holder_stops e s old mid shows is g = stops_behind e (Id ∷ []) (Just marks.Semicolon ∷ [])
    (passes_token Holder (Id ∷ Just marks.Semicolon ∷ []) (mark marks.Dot) s old mid shows
    (mark_met marks.Dot s.lookahead is) refl) g

pub holder_stops_behind : (e : SyntaxFault) (s : LocatedToken) (old mid : Reading) (n : List ℕ) (next : Reading)
    → Shows old s mid → is_mark marks.Dot s.lookahead ≡ true → Passes (Id ∷ []) [] [] (name n ∷ []) mid next
    → StopsIn e (Just marks.Semicolon ∷ []) [] next → StopsIn e (Holder ∷ []) [] old
holder_stops_behind e s old mid n next shows is h g = stops_behind e (Just marks.Semicolon ∷ []) []
    (passes_join (passes_token Holder (Id ∷ Just marks.Semicolon ∷ []) (mark marks.Dot) s old mid shows
    (mark_met marks.Dot s.lookahead is) refl) (passes_more (Just marks.Semicolon ∷ []) h)) g

-- the attribute alone
pub holder_none : (s : LocatedToken) (old mid : Reading) → Shows old s mid → is_mark marks.Semicolon s.lookahead ≡ true
    → Passes (Holder ∷ []) [] [] (mark marks.Semicolon ∷ []) old mid
holder_none s old mid shows is = passes_token Holder [] (mark marks.Semicolon) s old mid shows
    (mark_met marks.Semicolon s.lookahead is) refl

spread_inverse : (c : List Word) (x y z : Word) (ws : List Word) → c ++ x ∷ y ∷ z
    ∷ ws ≡ ((((c ++ x ∷ []) ++ y ∷ []) ++ z ∷ []) ++ ws)
spread_inverse c x y z ws = simp append_assoc

-- the words of an inverse attribute behind its name, part by part
pub inverse_words : (a c h : List Word) (e i : List ℕ) (ws : List Word) (f : List ℕ) → h ++ name i
    ∷ mark marks.Semicolon ∷ [] ≡ name f ∷ ws
    → a ++ mark marks.Colon ∷ (c ++ name e ∷ keyword keywords.For ∷ (h ++ name i ∷ mark marks.Semicolon ∷ [])) ≡ a
    ++ (((((mark marks.Colon ∷ []) ++ (c ++ name e ∷ [])) ++ keyword keywords.For ∷ []) ++ name f ∷ []) ++ ws)
inverse_words a c h e i ws f is = ap (λ l. a ++ mark marks.Colon ∷ (c ++ name e ∷ keyword keywords.For ∷ l)) is
    ∙ ap (λ l. a ++ mark marks.Colon ∷ l) (spread_inverse c (name e) (keyword keywords.For) (name f) ws)

-- neither a name nor SELF begins an attribute
pub attribute_refused : (l : Lexeme) → ((w : _) → l ≡ lexemes.Name w → ⊥) → is_keyword keywords.SelfWord
    (token (word_of l)) ≡ false → predict.next depth_limit AnAttribute (token (word_of l)) ≡ Err
    (refused (token (word_of l)))
attribute_refused (lexemes.Name w) h g = absurd (h w refl)
attribute_refused (lexemes.Keyword keywords.SelfWord) h g = absurd cc
attribute_refused _ h g = refl

-- neither a name, SET nor BAG begins what an inverse attribute holds
pub collection_refused : (l : Lexeme) → ((w : _) → l ≡ lexemes.Name w → ⊥) → is_keyword keywords.Set
    (token (word_of l)) ≡ false → is_keyword keywords.Bag (token (word_of l)) ≡ false → predict.next depth_limit
    Inverted (token (word_of l)) ≡ Err (refused (token (word_of l)))
collection_refused (lexemes.Name w) h g k = absurd (h w refl)
collection_refused (lexemes.Keyword keywords.Set) h g k = absurd cc
collection_refused (lexemes.Keyword keywords.Bag) h g k = absurd cc
collection_refused _ h g k = refl

-- the words of a derived attribute behind its name, part by part
pub derived_words : (a k b : List Word) → a ++ mark marks.Colon ∷ (k ++ mark marks.Assign ∷ b) ≡ a
    ++ (((mark marks.Colon ∷ []) ++ (k ++ mark marks.Assign ∷ [])) ++ b)
derived_words a k b = ap (λ l. a ++ mark marks.Colon ∷ l) (sym (append_assoc k (mark marks.Assign ∷ []) b))

-- the end of the text isn't a list
pub listed_not_over : (y : Symbol) → IsListed y → y ≡ predict.EndOfText → ⊥
listed_not_over y h e = let n : Ok (AnAttribute ∷ y ∷ []) ≡ Err (refused (token (mark marks.Comma))) = sym h
    ∙ ap (λ x. predict.next depth_limit x (token (mark marks.Comma))) e in cc

-- an attribute and a token leave less of the text
pub attribute_smaller : (t : LocatedToken) (a : Attribute) (here mid new : Reading) (w : Word) → t.lookahead ≡ token w
    → Passes (AnAttribute ∷ []) [] [] (words_of_attribute a) here mid → Shows mid t new → length (left new) < length
    (left here)
attribute_smaller t a here mid new w is h shows = omega (
  arith,
  shown_less w t mid new shows is,
  tokens_less h.shown (words_of_attribute a) here mid h.shown_all h.words,
)
