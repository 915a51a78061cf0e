-- The string that names the schema.
use Rattle.std.specs.Prelude.{◌≡◌, ℕ, ◌&&◌, Bool, false, List, [], ◌∷◌, length, map, take, drop, Some, slice_get}
use Rattle.std.specs.List.{list_all}
use Rattle.std.proofs.Common.{refl, sym, ap, ◌∙◌}
use Rattle.step_literals.specs.declared.literal.Text.{Text}
use Rattle.step_structures.specs.Words.{string}
use Rattle.step_structures.specs.Trees.{Tree, leaf, typed, group, Trees, none, one, Record}
use Rattle.step_structures.specs.Trees as trees
use Rattle.step_records.specs.Cells.{all_of}
use Rattle.step_records.specs.Params.{node_value, parts_of}
use Rattle.step_records.specs.declared.param.Node.{Node}
use Rattle.step_records.specs.declared.param.Node.TheVariants as nodes
use Rattle.step_exchange.specs.declared.structure.Exchange.{Exchange}
use Rattle.step_exchange.specs.Exchanges.{structure}
use Rattle.step_exchange.specs.Views.{record_in, rows_with}
use Rattle.step_exchange.proofs.SchemaNames.{values_behind}
use Rattle.schema_semantics.specs.Names.{Name}
use Rattle.conformance.specs.Findings.{string_in, schema_text, names_one, heading_names}
use Rattle.population_findings.specs.steps.SchemaNames.{headings_name}
use Rattle.population_findings.proofs.Spelling.{no-string, same-headings}

-- the string in a list
string_alone : List Tree → List ℕ
string_alone (leaf (string text) ∷ []) = text
string_alone _ = []

in-list : (y : Tree) → string_in (one y none) ≡ string_alone (parts_of y)
unfolding string_alone
in-list (group (one (leaf (string text)) none)) = refl
in-list _ = refl

two-lists : (x y : Tree) (ys : Trees) → string_in (one x (one y ys)) ≡ []
two-lists (group (one (leaf (string text)) none)) y ys = refl
two-lists _ y ys = refl

two-names : (x y : Tree) (ys : List Tree) → string_alone (x ∷ y ∷ ys) ≡ []
unfolding string_alone
two-names (leaf (string text)) y ys = refl
two-names _ y ys = refl

not-alone : (xs : List Tree) → (length xs ≡ 1 → ⊥) → string_in (all_of xs) ≡ []
not-alone [] f = refl
not-alone (x ∷ []) f = absurd (f refl)
not-alone (x ∷ y ∷ xs) f = two-lists x y (all_of xs)

name-not-alone : (xs : List Tree) → (length xs ≡ 1 → ⊥) → string_alone xs ≡ []
unfolding string_alone
name-not-alone [] f = refl
name-not-alone (x ∷ []) f = absurd (f refl)
name-not-alone (x ∷ y ∷ xs) f = two-names x y xs

no-text : (n : Node) → ((t : Text) → n ≡ nodes.Text t → ⊥) → string_alone (node_value n ∷ []) ≡ []
unfolding string_alone
no-text nodes.Unset f = refl
no-text nodes.Star f = refl
no-text (nodes.Number d) f = refl
no-text (nodes.Text t) f = absurd (f t refl)
no-text (nodes.Bits b) f = refl
no-text (nodes.Element w) f = refl
no-text (nodes.Reference n s) f = refl
no-text (nodes.Keyword w) f = refl
no-text (nodes.Typed w x) f = refl
no-text (nodes.List ys) f = refl

third : (xs : List Tree) (x : Tree) → slice_get xs 2 ≡ Some x
    → schema_text (map record_in xs) ≡ string_in (record_in x).values
third [] x e = absurd (cc)
third (a ∷ []) x e = absurd (cc)
third (a ∷ b ∷ []) x e = absurd (cc)
third (a ∷ b ∷ y ∷ xs) x e = let same : y ≡ x = cc in ap (λ z. string_in (record_in z).values) same

module _ (xs : List Tree) (x : Tree) (at : slice_get xs 2 ≡ Some x) (parts values : List Tree)
    (own : parts ≡ parts_of x) (behind : values ≡ drop 1 parts) where
  by-values : schema_text (map record_in xs) ≡ string_in (all_of values)
  by-values =
      third xs x at ∙ ap string_in (values_behind (parts_of x))
      ∙ ap (λ l. string_in (all_of (drop 1 l))) (sym own) ∙ ap (λ l. string_in (all_of l)) (sym behind)

  pub no-list : (length values ≡ 1 → ⊥) → schema_text (map record_in xs) ≡ []
  no-list f = by-values ∙ not-alone values f

  module _ (y : Tree) (alone : values ≡ y ∷ []) (inner : List Tree) (inside : inner ≡ parts_of y) where
    by-inner : schema_text (map record_in xs) ≡ string_alone inner
    by-inner = by-values ∙ ap (λ l. string_in (all_of l)) alone ∙ in-list y ∙ ap string_alone (sym inside)

    pub no-name : (length inner ≡ 1 → ⊥) → schema_text (map record_in xs) ≡ []
    no-name f = by-inner ∙ name-not-alone inner f

    module _ (z : Tree) (one-alone : inner ≡ z ∷ []) (n : Node) (is : node_value n ≡ z) where
      pub no-string-there : ((t : Text) → n ≡ nodes.Text t → ⊥) → schema_text (map record_in xs) ≡ []
      no-string-there f =
          by-inner ∙ ap string_alone one-alone ∙ ap (λ w. string_alone (w ∷ [])) (sym is) ∙ no-text n f

      pub the-string : (t : Text) → n ≡ nodes.Text t → schema_text (map record_in xs) ≡ t.text.now
      unfolding string_alone
      the-string t e =
          by-inner ∙ ap string_alone one-alone
          ∙ ap (λ w. string_alone (w ∷ [])) (sym is ∙ ap node_value e)

-- the schema of a structure
module _ (names : List Name) (x : Exchange) (header : List Tree) (front : header ≡ take x.header_len x.trees) where
  header-text : schema_text (structure x).header ≡ schema_text (map record_in header)
  header-text = ap (λ l. schema_text (map record_in l)) (sym front)

  pub unnamed : schema_text (map record_in header) ≡ []
      → false ≡ (names_one names (schema_text (structure x).header)
      && list_all (λ (y : trees.Section). heading_names names y.heading) (structure x).sections)
  unnamed e =
      sym (ap (λ b. b && list_all (λ (y : trees.Section). heading_names names y.heading)
      (structure x).sections) (no-string names (schema_text (structure x).header) (header-text ∙ e)))

  rest-is : list_all (λ (y : trees.Section). heading_names names y.heading) (structure x).sections
      ≡ headings_name names x.sections.items
  rest-is = same-headings names 0 x.sections.items (rows_with x.names (drop x.header_len x.trees))

  pub named : (t : Text) → schema_text (map record_in header) ≡ t.text.now → (a : Bool)
      → a ≡ names_one names t.text.now
      → (a && headings_name names x.sections.items) ≡ (names_one names (schema_text (structure x).header)
      && list_all (λ (y : trees.Section). heading_names names y.heading) (structure x).sections)
  named t e a h =
      (λ i. h i && sym rest-is i)
      ∙ ap (λ l. names_one names l
      && list_all (λ (y : trees.Section). heading_names names y.heading) (structure x).sections)
      (sym (header-text ∙ e))
