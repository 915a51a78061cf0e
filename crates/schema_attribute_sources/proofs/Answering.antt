-- What is found is what each reading of the schema says.
use Rattle.std.specs.Prelude.{◌≡◌, ◌↔◌, Bool, true, false, cond, ◌&&◌, List, [], ◌∷◌, Option, bytes_eq}
use Rattle.std.proofs.Common.{refl, ap, sym, subst, ◌∙◌}
use Rattle.std.proofs.lemmas.Slice.Eq.{bytes_eq-Decides}
use Rattle.express_syntax.specs.Schemas.{Schema}
use Rattle.express_syntax.specs.Schemas as schemas
use Rattle.schema_semantics.specs.Names.{Name}
use Rattle.schema_semantics.specs.Faults.{IsResolved}
use Rattle.conformance.specs.Rules.{InverseAttribute}
use Rattle.conformance.specs.Attributes.{Source, Attributes, AreAttributes, IsNamed, IsInGroup}
use Rattle.conformance.proofs.MeaningOneness.{attributes_are_one}
use Rattle.schema_attribute_sources.proofs.Members.{both, both-so}

-- whether two lists of names are one
alike : List Name → List Name → Bool
alike [] [] = true
alike [] (n ∷ ns) = false
alike (m ∷ ms) [] = false
alike (m ∷ ms) (n ∷ ns) = bytes_eq m n && alike ms ns

alike-itself : (ns : List Name) → alike ns ns ≡ true
unfolding alike
alike-itself [] = refl
alike-itself (n ∷ ns) = both-so (bytes_eq n n) (alike ns ns) ((bytes_eq-Decides n n).1 refl) (alike-itself ns)

alike-are : (ms ns : List Name) → alike ms ns ≡ true → ms ≡ ns
unfolding alike
alike-are [] [] t = refl
alike-are [] (n ∷ ns) t = absurd (cc)
alike-are (m ∷ ms) [] t = absurd (cc)
alike-are (m ∷ ms) (n ∷ ns) t =
    let (e, rest) = both (bytes_eq m n) (alike ms ns) t in
    let head : m ≡ n = (bytes_eq-Decides m n).0 e in
    let tail : ms ≡ ns = alike-are ms ns rest in
    ap (λ (x : Name). x ∷ ms) head ∙ ap (λ (xs : List Name). n ∷ xs) tail

itself : (n : Name) → bytes_eq n n ≡ true
itself n = (bytes_eq-Decides n n).1 refl

module _ (s : Schema) (r : IsResolved s) (inverses : List InverseAttribute) (b : Attributes)
    (h : AreAttributes s inverses b) where
  -- b, but for one answer, which is right too
  module _ (types : List Name) (a : Name) (o : Option Source) (named : IsNamed s inverses types a o) where
    answer : List Name → Name → Option Source
    answer ts n = cond (alike ts types && bytes_eq n a) o (b.source ts n)

    other : Attributes
    other = record b { source = answer }

    right : (ts : List Name) (n : Name) → IsNamed s inverses ts n (answer ts n)
    unfolding answer
    right ts n = by (alike ts types && bytes_eq n a) refl
      where
        by : (c : Bool) → (alike ts types && bytes_eq n a) ≡ c → IsNamed s inverses ts n (cond c o (b.source ts n))
        by false e = h.sources ts n
        by true e =
            let (x, y) = both (alike ts types) (bytes_eq n a) e in
            subst (λ m. IsNamed s inverses ts m o) (sym ((bytes_eq-Decides n a).0 y))
            (subst (λ us. IsNamed s inverses us a o) (sym (alike-are ts types x)) named)

    others : AreAttributes s inverses other
    unfolding other
    others = record { sources = right; groups = h.groups; formulas = h.formulas; names = h.names }

    pub source-is : o ≡ b.source types a
    unfolding other answer
    source-is =
        sym (ap (λ c. cond c o (b.source types a))
        (both-so (alike types types) (bytes_eq a a) (alike-itself types) (itself a)))
        ∙ ap (λ (x : Attributes). x.source types a) (attributes_are_one s inverses r other b others h)

  module _ (types : List Name) (e a : Name) (x : Source) (group : IsInGroup s inverses types e a x) where
    answer-of : List Name → Name → Name → Source
    answer-of ts m n = cond (alike ts types && (bytes_eq m e && bytes_eq n a)) x (b.source_of ts m n)

    other-of : Attributes
    other-of = record b { source_of = answer-of }

    right-of : (ts : List Name) (m n : Name) → IsInGroup s inverses ts m n (answer-of ts m n)
    unfolding answer-of
    right-of ts m n = by (alike ts types && (bytes_eq m e && bytes_eq n a)) refl
      where
        by : (c : Bool) → (alike ts types && (bytes_eq m e && bytes_eq n a)) ≡ c
            → IsInGroup s inverses ts m n (cond c x (b.source_of ts m n))
        by false f = h.groups ts m n
        by true f =
            let (p, q) = both (alike ts types) (bytes_eq m e && bytes_eq n a) f in
            let (u, v) = both (bytes_eq m e) (bytes_eq n a) q in
            subst (λ k. IsInGroup s inverses ts m k x) (sym ((bytes_eq-Decides n a).0 v))
            (subst (λ k. IsInGroup s inverses ts k a x) (sym ((bytes_eq-Decides m e).0 u))
            (subst (λ us. IsInGroup s inverses us e a x) (sym (alike-are ts types p)) group))

    others-of : AreAttributes s inverses other-of
    unfolding other-of
    others-of = record { sources = h.sources; groups = right-of; formulas = h.formulas; names = h.names }

    pub source-of-is : x ≡ b.source_of types e a
    unfolding other-of answer-of
    source-of-is =
        sym (ap (λ c. cond c x (b.source_of types e a))
        (both-so (alike types types) (bytes_eq e e && bytes_eq a a) (alike-itself types)
        (both-so (bytes_eq e e) (bytes_eq a a) (itself e) (itself a))))
        ∙ ap (λ (y : Attributes). y.source_of types e a) (attributes_are_one s inverses r other-of b others-of h)
