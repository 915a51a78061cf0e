-- What loops have read so far: what may follow completes it, and whatever stands goes on with what is left.
use Rattle.std.proofs.Common.{◌≡◌, ℕ, ◌+◌, ◌<◌, ◌≤◌, ◌⊎◌, inl, inr, false, List, [], ◌∷◌, ◌++◌, length, refl, sym, ap, ◌∙◌, subst, append_assoc, append-nil, arith}
use Rattle.std.proofs.lemmas.Grind.{common_steps}
use Rattle.express_lexer.specs.declared.marks.Mark.TheVariants as marks
use Rattle.express_syntax.specs.declared.keyword.Keyword.TheVariants as keywords
use Rattle.express_syntax.specs.declared.expression.Junction.{Junction}
use Rattle.express_syntax.specs.declared.expression.Junction.TheVariants as junctions
use Rattle.express_syntax.specs.Words.{Word, keyword, name, mark}
use Rattle.express_syntax.specs.Trees.{Tree, Trees, none, one, Alternatives, finish, another, Qualifiers, plain, attribute, group, index, words, words_of_trees, words_of_others, words_of_alternatives, words_of_qualifiers, word_of_junction}
use Rattle.express_syntax.specs.Grammar.{Level, primary, unary, term, simple, expression, depth_limit, FitsEach}
use Rattle.express_syntax.specs.steps.Reads.{goes_on, Stops, Stands, StandsNone}
use Rattle.express_syntax.specs.ExpressionViews.{Selection, of_attribute, of_group, of_element}
use Rattle.express_expressions.specs.steps.Pieces.{Lacks, Others, OthersNone, More, MoreNone, Selects, SelectsNone, Elements, ElementsNone, Before, BeforeNone, AttributeNone, Qualifies, QualifierNone}
use Rattle.express_expressions.proofs.ViewLemmas.{joined, joined_alternatives, joined_qualifiers, selected, joined_none, joined_joined, joined_alternatives_finish, joined_joined_alternatives, joined_qualifiers_plain, joined_joined_qualifiers}
use Rattle.express_syntax.proofs.Stopping.{conjuncts_behind, alternatives_behind, elements_behind}
use Rattle.express_expressions.proofs.Parts.{stands_same, stands_along, stands_behind, unary_stops, term_stops}

-- with less behind a word, less is left
pub shorter : (here : List Word) (w : Word) (more middle ys : List Word) → here ≡ w ∷ more → more ≡ ys ++ middle
    → length middle < length here
shorter here w more middle ys e f = grind (arith, common_steps)

-- AND
pub record OthersSoFar (n : ℕ) (ws : List Word) (xs : Trees) (here : List Word) : Type 0 where
  pub gives : (zs : Trees) (rest : List Word) → Others n here zs rest → Others n ws (joined xs zs) rest
  pub takes : (ys : Trees) (rest : List Word) → Others n ws ys rest → (zs : Trees) × Others n here zs rest
  pub whole : Stops unary here

others_inner : (n : ℕ) (more : List Word) (ys : Trees) (rest : List Word) → Others n (keyword keywords.And ∷ more) ys
    rest → (y : Tree) × (zs : Trees) × (middle : List Word) × Stands n unary more y middle × Others n middle zs rest
others_inner n more none rest h = absurd
    (let e : goes_on term (keyword keywords.And) ≡ false = (let P : List Word → Type 0 = Stops term in
    subst P (sym h.spelled) h.whole) in cc)
others_inner n more (one y zs) rest h =
    let e : more ≡ (words y ++ words_of_others (keyword keywords.And) zs) ++ rest = (let s = h.spelled in cc) in (
      y,
      zs,
      words_of_others (keyword keywords.And) zs ++ rest,
      record {
        fits = h.fits.0;
        spelled = e ∙ append_assoc (words y) (words_of_others (keyword keywords.And) zs) rest;
        whole = conjuncts_behind zs rest h.whole;
      },
      record { fits = h.fits.1; spelled = refl; whole = h.whole },
    )

others_outer : (n : ℕ) (more : List Word) (x : Tree) (middle : List Word) (zs : Trees) (rest : List Word)
    → Stands n unary more x middle → Others n middle zs rest → Others n (keyword keywords.And ∷ more) (one x zs) rest
others_outer n more x middle zs rest a h = record {
  fits = (a.fits, h.fits);
  spelled = ap (λ t. keyword keywords.And ∷ t) (a.spelled ∙ ap (λ t. words x ++ t) h.spelled
      ∙ sym (append_assoc (words x) (words_of_others (keyword keywords.And) zs) rest));
  whole = h.whole;
}

others_at : {n : ℕ} {ws vs rest : List Word} {xs : Trees} → ws ≡ vs → Others n ws xs rest → Others n vs xs rest
others_at {n} {ws} {vs} {rest} {xs} e h = record { fits = h.fits; spelled = sym e ∙ h.spelled; whole = h.whole }

pub others_next : (n : ℕ) (ws : List Word) (xs : Trees) (here more : List Word) (x : Tree) (middle : List Word)
    → OthersSoFar n ws xs here → here ≡ keyword keywords.And ∷ more → Stands n unary more x middle
    → OthersSoFar n ws (joined xs (one x none)) middle
others_next n ws xs here more x middle so e a = record {
  gives = λ zs rest h. subst (λ t. Others n ws t rest) (sym (joined_joined xs (one x none) zs))
      (so.gives (one x zs) rest (others_at (sym e) (others_outer n more x middle zs rest a h)));
  takes = λ ys rest h. let t = so.takes ys rest h in let i = others_inner n more t.0 rest (others_at e t.1) in
      (i.1, others_at (stands_same i.3 a).1 i.4);
  whole = a.whole;
}

pub others_none : (n : ℕ) (ws : List Word) (xs : Trees) (here more : List Word) → OthersSoFar n ws xs here
    → here ≡ keyword keywords.And ∷ more → StandsNone n unary more → OthersNone n ws
others_none n ws xs here more so e f ys rest h = let t = so.takes ys rest h in let i = others_inner n more t.0 rest
    (others_at e t.1) in f i.0 i.2 i.3

pub others_done : (n : ℕ) (ws : List Word) (xs : Trees) (here : List Word) → OthersSoFar n ws xs here
    → Lacks (keyword keywords.And) here → Others n ws xs here
others_done n ws xs here so l = subst (λ t. Others n ws t here) (joined_none xs) (so.gives none here (record {
  fits = tt;
  spelled = refl;
  whole = unary_stops here so.whole l;
}))

-- OR and XOR
pub record MoreSoFar (n : ℕ) (ws : List Word) (xs : Alternatives) (here : List Word) : Type 0 where
  pub gives : (zs : Alternatives) (rest : List Word) → More n here zs rest → More n ws (joined_alternatives xs zs) rest
  pub takes : (ys : Alternatives) (rest : List Word) → More n ws ys rest → (zs : Alternatives) × More n here zs rest
  pub whole : Stops term here

joins : (j : Junction) → goes_on simple (word_of_junction j) ≡ false → ⊥
joins junctions.Or h = cc
joins junctions.Xor h = cc

more_inner : (n : ℕ) (j : Junction) (more : List Word) (ys : Alternatives) (rest : List Word)
    → More n (word_of_junction j ∷ more) ys rest → (y : Tree) × (zs : Alternatives) × (middle : List Word)
    × Stands n term more y middle × More n middle zs rest
more_inner n j more finish rest h = absurd
    (joins j (let P : List Word → Type 0 = Stops simple in subst P (sym h.spelled) h.whole))
more_inner n j more (another i y zs) rest h =
    let e : more ≡ (words y ++ words_of_alternatives zs) ++ rest = (let s = h.spelled in cc) in (
      y,
      zs,
      words_of_alternatives zs ++ rest,
      record {
        fits = h.fits.0;
        spelled = e ∙ append_assoc (words y) (words_of_alternatives zs) rest;
        whole = alternatives_behind zs rest h.whole;
      },
      record { fits = h.fits.1; spelled = refl; whole = h.whole },
    )

more_outer : (n : ℕ) (j : Junction) (more : List Word) (x : Tree) (middle : List Word) (zs : Alternatives)
    (rest : List Word) → Stands n term more x middle → More n middle zs rest → More n (word_of_junction j ∷ more)
    (another j x zs) rest
more_outer n j more x middle zs rest a h = record {
  fits = (a.fits, h.fits);
  spelled = ap (λ t. word_of_junction j ∷ t) (a.spelled ∙ ap (λ t. words x ++ t) h.spelled
      ∙ sym (append_assoc (words x) (words_of_alternatives zs) rest));
  whole = h.whole;
}

more_at : {n : ℕ} {ws vs rest : List Word} {xs : Alternatives} → ws ≡ vs → More n ws xs rest → More n vs xs rest
more_at {n} {ws} {vs} {rest} {xs} e h = record { fits = h.fits; spelled = sym e ∙ h.spelled; whole = h.whole }

pub more_next : (n : ℕ) (ws : List Word) (xs : Alternatives) (here : List Word) (j : Junction) (more : List Word)
    (x : Tree) (middle : List Word) → MoreSoFar n ws xs here → here ≡ word_of_junction j ∷ more
    → Stands n term more x middle → MoreSoFar n ws (joined_alternatives xs (another j x finish)) middle
more_next n ws xs here j more x middle so e a = record {
  gives = λ zs rest h. subst (λ t. More n ws t rest) (sym (joined_joined_alternatives xs (another j x finish) zs))
      (so.gives (another j x zs) rest (more_at (sym e) (more_outer n j more x middle zs rest a h)));
  takes = λ ys rest h. let t = so.takes ys rest h in let i = more_inner n j more t.0 rest (more_at e t.1) in
      (i.1, more_at (stands_same i.3 a).1 i.4);
  whole = a.whole;
}

pub more_none : (n : ℕ) (ws : List Word) (xs : Alternatives) (here : List Word) (j : Junction) (more : List Word)
    → MoreSoFar n ws xs here → here ≡ word_of_junction j ∷ more → StandsNone n term more → MoreNone n ws
more_none n ws xs here j more so e f ys rest h = let t = so.takes ys rest h in let i = more_inner n j more t.0 rest
    (more_at e t.1) in f i.0 i.2 i.3

pub more_done : (n : ℕ) (ws : List Word) (xs : Alternatives) (here : List Word) → MoreSoFar n ws xs here
    → ((j : Junction) → Lacks (word_of_junction j) here) → More n ws xs here
more_done n ws xs here so l = subst (λ t. More n ws t here) (joined_alternatives_finish xs)
    (so.gives finish here (record { fits = tt; spelled = refl; whole = term_stops here so.whole l }))

-- qualifiers
pub record SelectsSoFar (n : ℕ) (ws : List Word) (xs : Qualifiers) (here : List Word) : Type 0 where
  pub gives : (zs : Qualifiers) (rest : List Word) → Selects n here zs rest → Selects n ws (joined_qualifiers xs zs)
      rest
  pub takes : (ys : Qualifiers) (rest : List Word) → Selects n ws ys rest → (zs : Qualifiers) × Selects n here zs rest

-- one qualifier, and those behind it
record Qualified (n : ℕ) (ws rest : List Word) : Type 0 where
  first : Selection
  middle : List Word
  others : Qualifiers
  stands : Qualifies n ws first middle
  others_stand : Selects n middle others rest

selects_inner : (n : ℕ) (ws : List Word) (ys : Qualifiers) (rest : List Word) → Selects n ws ys rest → Stops primary ws
    ⊎ Qualified n ws rest
selects_inner n ws plain rest h = inl (let P : List Word → Type 0 = Stops primary in subst P (sym h.spelled) h.whole)
selects_inner n ws (attribute a qs) rest h = inr (record {
  first = of_attribute a;
  middle = words_of_qualifiers qs ++ rest;
  others = qs;
  stands = h.spelled;
  others_stand = record { fits = h.fits; spelled = refl; whole = h.whole };
})
selects_inner n ws (group e a qs) rest h = inr (record {
  first = of_group e a;
  middle = words_of_qualifiers qs ++ rest;
  others = qs;
  stands = h.spelled;
  others_stand = record { fits = h.fits; spelled = refl; whole = h.whole };
})
selects_inner n ws (index x qs) rest h = inr (record {
  first = of_element x;
  middle = words_of_qualifiers qs ++ rest;
  others = qs;
  stands = (
    words x ++ mark marks.CloseBracket ∷ (words_of_qualifiers qs ++ rest),
    h.spelled ∙ ap (λ t. mark marks.OpenBracket ∷ t)
        (append_assoc (words x) (mark marks.CloseBracket ∷ words_of_qualifiers qs) rest),
    record { shallow = h.fits.0; stands = record { fits = h.fits.1; spelled = refl; whole = refl } },
  );
  others_stand = record { fits = h.fits.2; spelled = refl; whole = h.whole };
})

selects_outer : (n : ℕ) (ws : List Word) (s : Selection) (middle : List Word) (zs : Qualifiers) (rest : List Word)
    → Qualifies n ws s middle → Selects n middle zs rest → Selects n ws (selected s zs) rest
selects_outer n ws (of_attribute a) middle zs rest q h = record {
  fits = h.fits;
  spelled = q ∙ ap (λ t. mark marks.Dot ∷ name a ∷ t) h.spelled;
  whole = h.whole;
}
selects_outer n ws (of_group e a) middle zs rest q h = record {
  fits = h.fits;
  spelled = q ∙ ap (λ t. mark marks.Backslash ∷ name e ∷ mark marks.Dot ∷ name a ∷ t) h.spelled;
  whole = h.whole;
}
selects_outer n ws (of_element x) middle zs rest q h = record {
  fits = (q.2.shallow, q.2.stands.fits, h.fits);
  spelled = q.1 ∙ ap (λ t. mark marks.OpenBracket ∷ t) (q.2.stands.spelled ∙ ap (λ t. words x ++ mark marks.CloseBracket
      ∷ t) h.spelled ∙ sym (append_assoc (words x) (mark marks.CloseBracket ∷ words_of_qualifiers zs) rest));
  whole = h.whole;
}

pub before_same : {n : ℕ} {l : Level} {w : Word} {ws r s : List Word} {x y : Tree} → Before n l w ws x r
    → Before n l w ws y s → r ≡ s
before_same {n} {l} {w} {ws} {r} {s} {x} {y} a b = let e : w ∷ r ≡ w ∷ s = (stands_same a.stands b.stands).1 in cc

pub before_along : {n : ℕ} {l : Level} {w : Word} {ws vs r : List Word} {x : Tree} → ws ≡ vs → Before n l w ws x r
    → Before n l w vs x r
before_along {n} {l} {w} {ws} {vs} {r} {x} e a = record { shallow = a.shallow; stands = stands_along e a.stands }

qualifies_same : (n : ℕ) (ws : List Word) (s t : Selection) (r q : List Word) → Qualifies n ws s r → Qualifies n ws t q
    → r ≡ q
qualifies_same n ws (of_attribute a) (of_attribute b) r q h k = cc
qualifies_same n ws (of_attribute a) (of_group f b) r q h k = cc
qualifies_same n ws (of_attribute a) (of_element y) r q h k = let e = k.1 in cc
qualifies_same n ws (of_group e a) (of_attribute b) r q h k = cc
qualifies_same n ws (of_group e a) (of_group f b) r q h k = cc
qualifies_same n ws (of_group e a) (of_element y) r q h k = let i = k.1 in cc
qualifies_same n ws (of_element x) (of_attribute b) r q h k = let e = h.1 in cc
qualifies_same n ws (of_element x) (of_group f b) r q h k = let e = h.1 in cc
qualifies_same n ws (of_element x) (of_element y) r q h k = let e : k.0 ≡ h.0 = (let a = h.1 in let b = k.1 in cc) in
    before_same h.2 (before_along e k.2)

selects_at : {n : ℕ} {ws vs rest : List Word} {xs : Qualifiers} → ws ≡ vs → Selects n ws xs rest → Selects n vs xs rest
selects_at {n} {ws} {vs} {rest} {xs} e h = record { fits = h.fits; spelled = sym e ∙ h.spelled; whole = h.whole }

joined_selected : (xs : Qualifiers) (s : Selection) (zs : Qualifiers)
    → joined_qualifiers (joined_qualifiers xs (selected s plain)) zs ≡ joined_qualifiers xs (selected s zs)
joined_selected xs (of_attribute a) zs = joined_joined_qualifiers xs (attribute a plain) zs
joined_selected xs (of_group e a) zs = joined_joined_qualifiers xs (group e a plain) zs
joined_selected xs (of_element x) zs = joined_joined_qualifiers xs (index x plain) zs

pub selects_next : (n : ℕ) (ws : List Word) (xs : Qualifiers) (here : List Word) (s : Selection) (middle : List Word)
    → SelectsSoFar n ws xs here → (Stops primary here → ⊥) → Qualifies n here s middle
    → SelectsSoFar n ws (joined_qualifiers xs (selected s plain)) middle
selects_next n ws xs here s middle so f a = record {
  gives = λ zs rest h. subst (λ t. Selects n ws t rest) (sym (joined_selected xs s zs))
      (so.gives (selected s zs) rest (selects_outer n here s middle zs rest a h));
  takes = λ ys rest h.
      let t = so.takes ys rest h in
      elim (selects_inner n here t.0 rest t.1) [
        | inl b ↦ absurd (f b)
        | inr i ↦
            (i.others, selects_at (qualifies_same n here i.first s i.middle middle i.stands a) i.others_stand)
      ];
}

pub selects_none : (n : ℕ) (ws : List Word) (xs : Qualifiers) (here : List Word) → SelectsSoFar n ws xs here
    → (Stops primary here → ⊥) → QualifierNone n here → SelectsNone n ws
selects_none n ws xs here so f g ys rest h =
    let t = so.takes ys rest h in
    elim (selects_inner n here t.0 rest t.1) [ inl b ↦ f b | inr i ↦ g i.first i.middle i.stands ]

pub selects_done : (n : ℕ) (ws : List Word) (xs : Qualifiers) (here : List Word) → SelectsSoFar n ws xs here
    → Stops primary here → Selects n ws xs here
selects_done n ws xs here so s = subst (λ t. Selects n ws t here) (joined_qualifiers_plain xs)
    (so.gives plain here (record { fits = tt; spelled = refl; whole = s }))

pub qualifies_shorter : (n : ℕ) (ws : List Word) (s : Selection) (rest : List Word) → Qualifies n ws s rest
    → length rest < length ws
qualifies_shorter n ws (of_attribute a) rest q = shorter ws (mark marks.Dot) (name a ∷ rest) rest (name a ∷ []) q refl
qualifies_shorter n ws (of_group e a) rest q = shorter ws (mark marks.Backslash) (name e ∷ mark marks.Dot ∷ name a
    ∷ rest) rest (name e ∷ mark marks.Dot ∷ name a ∷ []) q refl
qualifies_shorter n ws (of_element x) rest q = shorter ws (mark marks.OpenBracket) q.0 rest
    (words x ++ mark marks.CloseBracket ∷ []) q.1 (q.2.stands.spelled
    ∙ sym (append_assoc (words x) (mark marks.CloseBracket ∷ []) rest))

pub no_attribute : (n : ℕ) (ws : List Word) → Lacks (mark marks.OpenBracket) ws → AttributeNone ws → QualifierNone n ws
no_attribute n ws l f (of_attribute a) rest h = f (of_attribute a) rest h
no_attribute n ws l f (of_group e a) rest h = f (of_group e a) rest h
no_attribute n ws l f (of_element x) rest h = l h.0 h.1

pub no_element : (n : ℕ) (ws more : List Word) → ws ≡ mark marks.OpenBracket ∷ more
    → BeforeNone n simple (mark marks.CloseBracket) more → QualifierNone n ws
no_element n ws more e f (of_attribute a) rest h = cc
no_element n ws more e f (of_group i a) rest h = cc
no_element n ws more e f (of_element x) rest h = let i : h.0 ≡ more = (let a = h.1 in cc) in
    f x rest (before_along i h.2)

-- elements of an aggregate, of which there is one at least
pub record Listed (n : ℕ) (ws : List Word) (x : Tree) (xs : Trees) (rest : List Word) : Type 0 where
  pub fits : FitsEach (n + 1) expression (one x xs)
  pub spelled : ws ≡ words_of_trees (one x xs) ++ mark marks.CloseBracket ∷ rest

pub record ElementsSoFar (n : ℕ) (ws : List Word) (xs : Trees) (here : List Word) : Type 0 where
  pub gives : (z : Tree) (zs : Trees) (rest : List Word) → Listed n here z zs rest
      → Elements n ws (joined xs (one z zs)) rest
  pub takes : (ys : Trees) (rest : List Word) → Elements n ws ys rest → (z : Tree) × (zs : Trees)
      × Listed n here z zs rest

elements_begun : (n : ℕ) (ws : List Word) (ys : Trees) (rest : List Word) → Lacks (mark marks.CloseBracket) ws
    → Elements n ws ys rest → (z : Tree) × (zs : Trees) × Listed n ws z zs rest
elements_begun n ws none rest l h = absurd (l rest h.spelled)
elements_begun n ws (one y ys) rest l h = (y, ys, record { fits = h.fits; spelled = h.spelled })

pub elements_first : (n : ℕ) (ws : List Word) → n < depth_limit → Lacks (mark marks.CloseBracket) ws
    → ElementsSoFar n ws none ws
elements_first n ws d l = record {
  gives = λ z zs rest h. record {
    shallow = d;
    fits = h.fits;
    spelled = h.spelled;
  };
  takes = λ ys rest h. elements_begun n ws ys rest l h;
}

-- the first of them, and what is behind it
listed_inner : (n : ℕ) (here : List Word) (y : Tree) (zs : Trees) (rest : List Word) → Listed n here y zs rest
    → Stands (n + 1) expression here y (words_of_others (mark marks.Comma) zs ++ mark marks.CloseBracket ∷ rest)
listed_inner n here y zs rest h = record {
  fits = h.fits.0;
  spelled = h.spelled ∙ append_assoc (words y) (words_of_others (mark marks.Comma) zs)
      (mark marks.CloseBracket ∷ rest);
  whole = elements_behind zs rest;
}

listed_more : (n : ℕ) (zs : Trees) (more rest : List Word) → FitsEach (n + 1) expression zs
    → words_of_others (mark marks.Comma) zs ++ mark marks.CloseBracket ∷ rest ≡ mark marks.Comma ∷ more → (z : Tree)
    × (vs : Trees) × Listed n more z vs rest
listed_more n none more rest f e = absurd (cc)
listed_more n (one z zs) more rest f e = (
  z,
  zs,
  record {
    fits = f;
    spelled = (let i : more ≡ (words z ++ words_of_others (mark marks.Comma) zs) ++ mark marks.CloseBracket
        ∷ rest = cc in i);
  },
)

listed_outer : (n : ℕ) (here : List Word) (x : Tree) (more : List Word) (z : Tree) (zs : Trees) (rest : List Word)
    → Stands (n + 1) expression here x (mark marks.Comma ∷ more) → Listed n more z zs rest → Listed n here x (one z zs)
    rest
listed_outer n here x more z zs rest a h = record {
  fits = (a.fits, h.fits);
  spelled = a.spelled ∙ ap (λ t. words x ++ mark marks.Comma ∷ t) h.spelled
      ∙ sym (append_assoc (words x) (words_of_others (mark marks.Comma) (one z zs)) (mark marks.CloseBracket ∷ rest));
}

pub elements_next : (n : ℕ) (ws : List Word) (xs : Trees) (here : List Word) (x : Tree) (middle more : List Word)
    → ElementsSoFar n ws xs here → Stands (n + 1) expression here x middle → middle ≡ mark marks.Comma ∷ more
    → ElementsSoFar n ws (joined xs (one x none)) more
elements_next n ws xs here x middle more so a e = record {
  gives = λ z zs rest h. subst (λ t. Elements n ws t rest) (sym (joined_joined xs (one x none) (one z zs)))
      (so.gives x (one z zs) rest (listed_outer n here x more z zs rest (stands_behind e a) h));
  takes = λ ys rest h. let t = so.takes ys rest h in listed_more n t.1 more rest t.2.fits.1
      ((stands_same (listed_inner n here t.0 t.1 rest t.2) a).1 ∙ e);
}

pub elements_none : (n : ℕ) (ws : List Word) (xs : Trees) (here : List Word) → ElementsSoFar n ws xs here
    → StandsNone (n + 1) expression here → ElementsNone n ws
elements_none n ws xs here so f ys rest h = let t = so.takes ys rest h in f t.0 _ (listed_inner n here t.0 t.1 rest t.2)

listed_end : (zs : Trees) (rest : List Word) → Lacks (mark marks.CloseBracket) (words_of_others (mark marks.Comma) zs
    ++ mark marks.CloseBracket ∷ rest) → Lacks (mark marks.Comma) (words_of_others (mark marks.Comma) zs
    ++ mark marks.CloseBracket ∷ rest) → ⊥
listed_end none rest l k = l rest refl
listed_end (one z zs) rest l k = k _ refl

pub elements_stuck : (n : ℕ) (ws : List Word) (xs : Trees) (here : List Word) (x : Tree) (middle : List Word)
    → ElementsSoFar n ws xs here → Stands (n + 1) expression here x middle → Lacks (mark marks.CloseBracket) middle
    → Lacks (mark marks.Comma) middle → ElementsNone n ws
elements_stuck n ws xs here x middle so a l k ys rest h =
    let t = so.takes ys rest h in
    let e = (stands_same (listed_inner n here t.0 t.1 rest t.2) a).1 in
    listed_end t.1 rest (λ r i. l r (sym e ∙ i)) (λ r i. k r (sym e ∙ i))

pub elements_done : (n : ℕ) (ws : List Word) (xs : Trees) (here : List Word) (x : Tree) (middle rest : List Word)
    → ElementsSoFar n ws xs here → Stands (n + 1) expression here x middle → middle ≡ mark marks.CloseBracket ∷ rest
    → Elements n ws (joined xs (one x none)) rest
elements_done n ws xs here x middle rest so a e = so.gives x none rest (record {
  fits = (a.fits, tt);
  spelled = a.spelled ∙ ap (λ t. words x ++ t) e ∙ ap (λ t. t ++ mark marks.CloseBracket ∷ rest)
      (sym (append-nil (words x)));
})
