-- What a store keeps of a run that merges a file.
use Rattle.std.proofs.Common.{◌≡◌, ◌∙◌, Bool, false, List, [], ℕ, Option, IfSome, inr, refl, sym, subst}
use Rattle.conformance.specs.Choices.{Choice}
use Rattle.command_line.specs.declared.command_words.Request.{Request}
use Rattle.files.specs.Stores.{HoldsWritten, Stored, file_seen}
use Rattle.schema_semantics.specs.Names.{Name}
use Rattle.commands.specs.CommandLines.{written_at}
use Rattle.commands.specs.steps.ComputedRequests.{Does}
use Rattle.commands.specs.Endings.{Exit, output_seen}
use Rattle.commands.specs.Merges.{MakesSmaller, RunsShrink, Writers, writers_of}
use Rattle.commands.specs.Runs.{RunsCheck}

-- The state of a store goes through these: both readers and both writers are handed out, and both writers are taken back.
module _ {S W : Type 0} (contents : S → List ℕ → Option (List ℕ)) (fails : S → List ℕ → Option Bool)
    (held : W → Option (List ℕ)) (has_failed : W → Bool) (o p q r s t u : S) (output certificate : List ℕ)
    (apart : output ≡ certificate → ⊥) (one : (y : List ℕ) → contents p y ≡ contents o y)
    (two : (y : List ℕ) → contents q y ≡ contents p y) (three : (y : List ℕ) → contents r y ≡ contents q y)
    (four : (y : List ℕ) → contents s y ≡ contents r y)
    (five : (y : List ℕ) → (y ≡ output → ⊥) → contents t y ≡ contents s y)
    (six : (y : List ℕ) → (y ≡ certificate → ⊥) → contents u y ≡ contents t y) where
  unread : (y : List ℕ) → contents s y ≡ contents o y
  unread y = four y ∙ three y ∙ two y ∙ one y

  -- no other file changes
  pub others_kept : (y : List ℕ) → (y ≡ output → ⊥) → (y ≡ certificate → ⊥) → contents u y ≡ contents o y
  others_kept y first second = six y second ∙ five y first ∙ unread y

  pub makes_smaller : (choice : Choice) (strict : Bool) (schema file : List ℕ) (sch fil : Stored) (w w' c c' : W)
      (exit : Exit) → sch.contents ≡ contents o schema → sch.fails ≡ fails o schema
      → ((y : List ℕ) → fails p y ≡ fails o y) → fil.contents ≡ contents p file → fil.fails ≡ fails p file
      → has_failed w ≡ false → IfSome (held w) (λ bytes. bytes ≡ []) → has_failed c ≡ false
      → IfSome (held c) (λ bytes. bytes ≡ [])
      → RunsShrink choice strict sch fil (output_seen held has_failed w w') (output_seen held has_failed c c') exit
      → HoldsWritten (held w') (contents s output) (contents t output)
      → HoldsWritten (held c') (contents t certificate) (contents u certificate)
      → MakesSmaller (writers_of held has_failed) choice strict (file_seen contents fails o schema)
      (file_seen contents fails o file) (written_at (file_seen contents fails o) (contents u) output)
      (written_at (file_seen contents fails o) (contents u) certificate) exit
  makes_smaller choice strict schema file sch fil w w' c c' exit s_holds s_fails same f_holds f_fails w_fresh w_empty
      c_fresh c_empty runs w_kept c_kept = record {
        output = output_seen held has_failed w w';
        certificate = output_seen held has_failed c c';
        output_empty = record { fresh = w_fresh; nothing = w_empty; told = (λ tell. tell w) };
        certificate_empty = record { fresh = c_fresh; nothing = c_empty; told = (λ tell. tell c) };
        output_stands = inr (w', refl);
        certificate_stands = inr (c', refl);
        runs = subst (λ (x : Stored). RunsShrink choice strict x (file_seen contents fails o file)
            (output_seen held has_failed w w') (output_seen held has_failed c c') exit) schema_is
            (subst (λ (x : Stored). RunsShrink choice strict sch x (output_seen held has_failed w w')
            (output_seen held has_failed c c') exit) file_is runs);
        output_holds = subst (λ old. HoldsWritten (held w') old (contents u output)) (unread output)
            (subst (HoldsWritten (held w') (contents s output)) (sym (six output apart)) w_kept);
        certificate_holds = subst (λ old. HoldsWritten (held c') old (contents u certificate))
            (five certificate (λ is. apart (sym is)) ∙ unread certificate) c_kept;
      }
    where
      schema_is : sch ≡ file_seen contents fails o schema
      schema_is = λ i. record { contents = s_holds i; fails = s_fails i }

      file_is : fil ≡ file_seen contents fails o file
      file_is = λ i. record { contents = (f_holds ∙ one file) i; fails = (f_fails ∙ same file) i }

-- What is told of a reader is what the store tells of its file, in the state that it is handed out in.
module _ {S : Type 0} (contents : S → List ℕ → Option (List ℕ)) (fails : S → List ℕ → Option Bool) where
  pub is_stored : (o p : S) (file : List ℕ) (told : Stored) → ((y : List ℕ) → contents p y ≡ contents o y)
      → ((y : List ℕ) → fails p y ≡ fails o y) → told.contents ≡ contents p file → told.fails ≡ fails p file
      → told ≡ file_seen contents fails o file
  is_stored o p file told kept same holds failing =
      λ i. record { contents = (holds ∙ kept file) i; fails = (failing ∙ same file) i }

  pub is_stored_first : (o : S) (file : List ℕ) (told : Stored) → told.contents ≡ contents o file
      → told.fails ≡ fails o file → told ≡ file_seen contents fails o file
  is_stored_first o file told holds failing = λ i. record { contents = holds i; fails = failing i }

-- what is done for a request that is this one
pub done_as : (writers : Writers) (request is : Request)
    (files : List ℕ → Stored)
    (holds : List ℕ → Option (List ℕ)) (exit : Exit) → is ≡ request
    → Does writers is files holds exit
    → Does writers request files holds exit
done_as writers request is files holds exit same does =
    subst (λ asked. Does writers asked files holds exit) same does

-- a check of two files that these are
pub checks_as : (others others' : List Name) (s s' f f' : Stored) (exit : Exit) → others ≡ others' → s ≡ s' → f ≡ f'
    → RunsCheck others s f exit → RunsCheck others' s' f' exit
checks_as others others' s s' f f' exit names schema file runs =
    subst (λ it. RunsCheck others' s' it exit) file
    (subst (λ it. RunsCheck others' it f exit) schema
    (subst (λ it. RunsCheck it s f exit) names runs))
