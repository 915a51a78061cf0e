-- What is answered on the way, by what was read and written.
use Rattle.std.specs.Prelude.{◌≡◌, ◌≤◌, ◌<◌, ◌^◌, ℕ, suc, Bool, List, [], length, replicate, Option, None, Some, IfSome, Result, Ok, Err}
use Rattle.std.proofs.Common.{refl, sym, ◌∙◌, subst, inl, inr, arith, append-nil}
use Rattle.std.proofs.lemmas.List.{length-replicate}
use Rattle.std.proofs.KnownBytes.{Appends-nil, Consumes-whole}
use Rattle.std.specs.Io.KnownBytes.{Appends, Keeps, Consumes, IsAtEnd}
use Rattle.step_structures.specs.declared.fault.TextFault.{TextFault}
use Rattle.step_structures.specs.declared.fault.TextFault.TheVariants as texts
use Rattle.step_structures.specs.Texts.{IsFaultOf}
use Rattle.express_syntax.specs.Schemas.{Schema}
use Rattle.express_syntax.specs.Texts as schema_texts
use Rattle.express_syntax.specs.declared.fault.SchemaFault.{SchemaFault}
use Rattle.express_syntax.specs.declared.fault.SchemaFault.TheVariants as schemas
use Rattle.schema_types.specs.Resolution.{IsNameFault}
use Rattle.conformance.specs.Choices.{Choice, merge_options, unknown_choice, MergeOptions}
use Rattle.merge_choices.specs.ChosenEntities.{IsChoiceFault}
use Rattle.files.specs.Faults.{text_fault}
use Rattle.files.specs.steps.Reads.{IsBeyond}
use Rattle.files.specs.declared.read.ReadFault.{ReadFault}
use Rattle.files.specs.declared.read.ReadFault.TheVariants as reads
use Rattle.files.specs.declared.fault.Role.TheVariants as roles
use Rattle.files.specs.declared.fault.FileFault.{FileFault}
use Rattle.files.specs.declared.fault.FileFault.TheVariants as files
use Rattle.reports.specs.Devices.{FileFailsAs}
use Rattle.reports.specs.Faults.{of_file, of_schema, unread}
use Rattle.reports.specs.declared.fault.Fault.{Fault}
use Rattle.reports.specs.declared.fault.Fault.TheVariants as faults
use Rattle.checking.specs.Checks.{IsResolvedSchemaText}
use Rattle.shrinking.specs.declared.summary.Summary.{Summary}
use Rattle.shrinking.specs.Shrinking.{Passes, IsDone, FileAnswers, ShrinkAnswers, Shrinks, Written}
use Rattle.shrinking.specs.steps.ComputedAnswers.{Writes, FileShrinks, SourceShrinks}

-- what stays grows by nothing
kept_appends : (a b : Option (List ℕ)) → Keeps a b → Appends a b []
kept_appends None b h = tt
kept_appends (Some xs) None h = absurd h
kept_appends (Some xs) (Some ys) h = h ∙ sym (append-nil xs)

-- a sink holds what it held
abbrev pub unwritten : Option (List ℕ) → Written
unwritten held = record { before = held; after = held }

-- bytes that are to come where that is told, else any
some_text : (told : Option (List ℕ)) → (text : List ℕ) × IfSome told (λ t. t ≡ text)
some_text None = ([], tt)
some_text (Some text) = (text, refl)

-- bytes that are to come, more than the limit
long_text : (limit : ℕ) (told : Option (List ℕ)) → IsBeyond limit told
    → (text : List ℕ) × IfSome told (λ t. t ≡ text) × (limit < length text)
long_text limit None h =
    let many = length-replicate {A = ℕ} (suc limit) 0 in (replicate (suc limit) 0, tt, omega (arith, many))
long_text limit (Some text) h = (text, refl, h)

module _ (s : Schema) (chosen : MergeOptions) (bytes : List ℕ) where
  -- nothing was written
  pub idle : (out cert : Option (List ℕ)) (r : Result Summary Fault) → FileAnswers s chosen bytes [] [] r
      → FileShrinks s chosen bytes (unwritten out) (unwritten cert) r
  idle out cert r h = record {
    output = [];
    certificate = [];
    answers = h;
    written = Appends-nil out;
    certified = Appends-nil cert;
  }

  -- both texts were
  pub all_written : (out cert : Written) (text certified : List ℕ) (m : Summary)
      → IsDone s chosen bytes text certified m → Appends out.before out.after text
      → Appends cert.before cert.after certified → FileShrinks s chosen bytes out cert (Ok m)
  all_written out cert text certified m h a b = record {
    output = text;
    certificate = certified;
    answers = h;
    written = a;
    certified = b;
  }

  -- a prefix of both texts is written
  pub cut : (out cert : Written) (text certified : List ℕ) (m : Summary) (f : FileFault) (r : Fault)
      → r ≡ of_file f → IsDone s chosen bytes text certified m → Writes out cert text certified (Err f)
      → FileShrinks s chosen bytes out cert (Err r)
  cut out cert text certified m f r e done h =
      subst (λ (x : Fault). FileShrinks s chosen bytes out cert (Err x)) (sym e) (by f h)
    where
      by : (f : FileFault) → Writes out cert text certified (Err f)
          → FileShrinks s chosen bytes out cert (Err (of_file f))
      by (files.Text role kind place) h = absurd h
      by (files.Device roles.Schema written) h = absurd h
      by (files.Device roles.File written) h = absurd h
      by (files.Device roles.Output written) h = record {
        output = h.0.sent;
        certificate = [];
        answers = (
          text,
          certified,
          m,
          done,
          record { left = h.0.left; text_is = h.0.front; count = h.0.count },
          refl,
        );
        written = h.0.told;
        certified = kept_appends cert.before cert.after h.1;
      }
      by (files.Device roles.Certificate written) h = record {
        output = text;
        certificate = h.1.sent;
        answers = (
          certified,
          m,
          done,
          record { left = h.1.left; text_is = h.1.front; count = h.1.count },
        );
        written = h.0;
        certified = h.1.told;
      }
      by files.Memory h = record {
        output = [];
        certificate = [];
        answers = (refl, refl);
        written = kept_appends out.before out.after h.0;
        certified = kept_appends cert.before cert.after h.1;
      }

  -- the text of the file isn't read
  pub unread_text : (out cert : Option (List ℕ)) (e : TextFault) (f : FileFault) (r : Fault)
      → f ≡ text_fault roles.File e → r ≡ of_file f → length bytes ≤ 2 ^ 40 → IsFaultOf bytes e
      → FileShrinks s chosen bytes (unwritten out) (unwritten cert) (Err r)
  unread_text out cert e f r is so within h =
      subst (λ (x : Fault). FileShrinks s chosen bytes (unwritten out) (unwritten cert) (Err x))
      (sym (so ∙ (λ i. of_file (is i)))) (by e h)
    where
      by : (e : TextFault) → IsFaultOf bytes e
          → FileShrinks s chosen bytes (unwritten out) (unwritten cert) (Err (of_file (text_fault roles.File e)))
      by (texts.Fault kind place) h =
          idle out cert (Err (faults.Text roles.File kind place)) (inr (within, h), (refl, refl))
      by texts.Memory h = idle out cert (Err faults.Memory) (refl, refl)

-- bytes that a source gave to its end
pub given : (s : Schema) (chosen : MergeOptions) (file left : Option (List ℕ)) (bytes : List ℕ)
    (out cert : Written) (r : Result Summary Fault) → Consumes file left bytes × IsAtEnd left
    → FileShrinks s chosen bytes out cert r → SourceShrinks s chosen file out cert r
given s chosen file left bytes out cert r h k = record {
  bytes = bytes;
  bytes_are = Consumes-whole file left bytes (λ b. b ≡ bytes) h.0 h.1 refl;
  shrinks = k;
}

-- the file isn't read to its end
pub not_given : (s : Schema) (chosen : MergeOptions) (file out cert : Option (List ℕ)) (e : ReadFault) (r : Fault)
    → r ≡ unread roles.File e → (e ≡ reads.TooLarge → IsBeyond (2 ^ 40) file)
    → SourceShrinks s chosen file (unwritten out) (unwritten cert) (Err r)
not_given s chosen file out cert e r is beyond =
    subst (λ (x : Fault). SourceShrinks s chosen file (unwritten out) (unwritten cert) (Err x)) (sym is) (by e beyond)
  where
    any : (x : Fault) → ((bytes : List ℕ) → FileAnswers s chosen bytes [] [] (Err x))
        → SourceShrinks s chosen file (unwritten out) (unwritten cert) (Err x)
    any x h =
        let text = some_text file in
        record { bytes = text.0; bytes_are = text.1; shrinks = idle s chosen text.0 out cert (Err x) (h text.0) }

    by : (e : ReadFault) → (e ≡ reads.TooLarge → IsBeyond (2 ^ 40) file)
        → SourceShrinks s chosen file (unwritten out) (unwritten cert) (Err (unread roles.File e))
    by reads.Device h = any (faults.Device roles.File 0) (λ bytes. (refl, (refl, refl)))
    by reads.TooLarge h =
        let text = long_text (2 ^ 40) file (h refl) in
        record {
          bytes = text.0;
          bytes_are = text.1;
          shrinks = idle s chosen text.0 out cert _ (inl (text.2, refl, refl), (refl, refl));
        }
    by reads.Memory h = any faults.Memory (λ bytes. (refl, refl))

-- what is answered to a file is answered to a schema that lets it pass
file_answered : (c : Choice) (strict : Bool) (s : Schema) (text bytes output certificate : List ℕ) → IsResolvedSchemaText s text
    → Passes strict s → unknown_choice s c ≡ None → (r : Result Summary Fault)
    → FileAnswers s (merge_options s c) bytes output certificate r
    → ShrinkAnswers c strict text bytes output certificate r
file_answered c strict s text bytes output certificate has passes known (Ok m) h = (s, has, passes, known, h)
file_answered c strict s text bytes output certificate has passes known (Err (faults.Schema f)) h = absurd h
file_answered c strict s text bytes output certificate has passes known (Err (faults.Unchecked us)) h = absurd h
file_answered c strict s text bytes output certificate has passes known (Err (faults.Text roles.File kind place)) h =
    (s, has, passes, known, h)
file_answered c strict s text bytes output certificate has passes known (Err (faults.Text roles.Schema kind place)) h =
    absurd h
file_answered c strict s text bytes output certificate has passes known (Err (faults.Text roles.Output kind place)) h =
    absurd h
file_answered c strict s text bytes output certificate has passes known (Err (faults.Text roles.Certificate kind place)) h =
    absurd h
file_answered c strict s text bytes output certificate has passes known (Err (faults.Findings r)) h =
    (s, has, passes, known, h)
file_answered c strict s text bytes output certificate has passes known (Err (faults.Refused role findings rules)) h =
    absurd h
file_answered c strict s text bytes output certificate has passes known (Err (faults.Certificate refusal)) h = absurd h
file_answered c strict s text bytes output certificate has passes known (Err (faults.Device roles.Schema written)) h =
    absurd h
file_answered c strict s text bytes output certificate has passes known (Err (faults.Device roles.File written)) h =
    (s, has, passes, known, h)
file_answered c strict s text bytes output certificate has passes known (Err (faults.Device roles.Output written)) h =
    (s, has, passes, known, h)
file_answered c strict s text bytes output certificate has passes known (Err (faults.Device roles.Certificate written)) h =
    (s, has, passes, known, h)
file_answered c strict s text bytes output certificate has passes known (Err faults.Memory) h = h

module _ (c : Choice) (strict : Bool) (text : List ℕ) where
  pub settled : (s : Schema) (file : Option (List ℕ)) (out cert : Written) (r : Result Summary Fault)
      → IsResolvedSchemaText s text → Passes strict s → unknown_choice s c ≡ None
      → SourceShrinks s (merge_options s c) file out cert r → Shrinks c strict (Some text) file out cert r
  settled s file out cert r has passes known h =
      let k = h.shrinks in
      record {
        text = text;
        bytes = h.bytes;
        output = k.output;
        certificate = k.certificate;
        text_is = refl;
        bytes_are = h.bytes_are;
        answers = file_answered c strict s text h.bytes k.output k.certificate has passes known r k.answers;
        written = k.written;
        certified = k.certified;
      }

  -- the file isn't looked at
  pub unlooked : (file out cert : Option (List ℕ)) (r : Fault)
      → ((bytes : List ℕ) → ShrinkAnswers c strict text bytes [] [] (Err r))
      → Shrinks c strict (Some text) file (unwritten out) (unwritten cert) (Err r)
  unlooked file out cert r h =
      let bytes = some_text file in
      record {
        text = text;
        bytes = bytes.0;
        output = [];
        certificate = [];
        text_is = refl;
        bytes_are = bytes.1;
        answers = h bytes.0;
        written = Appends-nil out;
        certified = Appends-nil cert;
      }

  -- a chosen name is no entity
  pub unknown : (s : Schema) (file out cert : Option (List ℕ)) (f : SchemaFault) (r : Fault) → r ≡ of_schema f
      → IsResolvedSchemaText s text → Passes strict s → IsChoiceFault s c f
      → Shrinks c strict (Some text) file (unwritten out) (unwritten cert) (Err r)
  unknown s file out cert f r is has passes h =
      subst (λ (x : Fault). Shrinks c strict (Some text) file (unwritten out) (unwritten cert) (Err x)) (sym is) (by f h)
    where
      by : (f : SchemaFault) → IsChoiceFault s c f
          → Shrinks c strict (Some text) file (unwritten out) (unwritten cert) (Err (of_schema f))
      by (schemas.Text kind place) h = absurd h
      by (schemas.Name kind name) h = unlooked file out cert (faults.Schema (schemas.Name kind name))
          (λ bytes. (inr (s, has, passes, h), (refl, refl)))
      by schemas.Memory h = unlooked file out cert faults.Memory (λ bytes. (refl, refl))

  -- the text of the schema isn't read
  pub schema_unread : (file out cert : Option (List ℕ)) (f : SchemaFault) (r : Fault) → r ≡ of_schema f
      → length text ≤ 2 ^ 40 → schema_texts.IsFaultOf text f
      → Shrinks c strict (Some text) file (unwritten out) (unwritten cert) (Err r)
  schema_unread file out cert f r is within h =
      subst (λ (x : Fault). Shrinks c strict (Some text) file (unwritten out) (unwritten cert) (Err x)) (sym is) (by f h)
    where
      by : (f : SchemaFault) → schema_texts.IsFaultOf text f
          → Shrinks c strict (Some text) file (unwritten out) (unwritten cert) (Err (of_schema f))
      by (schemas.Text kind place) h = unlooked file out cert (faults.Schema (schemas.Text kind place))
          (λ bytes. (inl (inr (within, h)), (refl, refl)))
      by (schemas.Name kind name) h = absurd h
      by schemas.Memory h = unlooked file out cert faults.Memory (λ bytes. (refl, refl))

  -- a name in the schema is at fault
  pub unresolved : (s : Schema) (file out cert : Option (List ℕ)) (f : SchemaFault) (r : Fault) → r ≡ of_schema f
      → length text ≤ 2 ^ 40 → schema_texts.ReadsAs text s → IsNameFault s f
      → Shrinks c strict (Some text) file (unwritten out) (unwritten cert) (Err r)
  unresolved s file out cert f r is within reads h =
      subst (λ (x : Fault). Shrinks c strict (Some text) file (unwritten out) (unwritten cert) (Err x)) (sym is) (by f h)
    where
      by : (f : SchemaFault) → IsNameFault s f
          → Shrinks c strict (Some text) file (unwritten out) (unwritten cert) (Err (of_schema f))
      by (schemas.Text kind place) h = absurd h
      by (schemas.Name kind name) h = unlooked file out cert (faults.Schema (schemas.Name kind name))
          (λ bytes. (inl (within, (s, reads, h)), (refl, refl)))
      by schemas.Memory h = unlooked file out cert faults.Memory (λ bytes. (refl, refl))

-- the schema's bytes are those of a source that gave them
pub of_source : (c : Choice) (strict : Bool) (schema left : Option (List ℕ)) (bytes : List ℕ)
    (file : Option (List ℕ)) (out cert : Written) (r : Result Summary Fault)
    → Consumes schema left bytes × IsAtEnd left → Shrinks c strict (Some bytes) file out cert r
    → Shrinks c strict schema file out cert r
of_source c strict schema left bytes file out cert r h k = record {
  text = k.text;
  bytes = k.bytes;
  output = k.output;
  certificate = k.certificate;
  text_is = Consumes-whole schema left bytes (λ t. t ≡ k.text) h.0 h.1 k.text_is;
  bytes_are = k.bytes_are;
  answers = k.answers;
  written = k.written;
  certified = k.certified;
}

-- the schema isn't read to its end
pub schema_not_given : (c : Choice) (strict : Bool) (schema file out cert : Option (List ℕ)) (e : ReadFault)
    (r : Fault) → r ≡ unread roles.Schema e → (e ≡ reads.TooLarge → IsBeyond (2 ^ 40) schema)
    → Shrinks c strict schema file (unwritten out) (unwritten cert) (Err r)
schema_not_given c strict schema file out cert e r is beyond =
    subst (λ (x : Fault). Shrinks c strict schema file (unwritten out) (unwritten cert) (Err x)) (sym is) (by e beyond)
  where
    with_text : (text : List ℕ) → IfSome schema (λ t. t ≡ text) → (x : Fault)
        → ((bytes : List ℕ) → ShrinkAnswers c strict text bytes [] [] (Err x))
        → Shrinks c strict schema file (unwritten out) (unwritten cert) (Err x)
    with_text text told x h =
        let bytes = some_text file in
        record {
          text = text;
          bytes = bytes.0;
          output = [];
          certificate = [];
          text_is = told;
          bytes_are = bytes.1;
          answers = h bytes.0;
          written = Appends-nil out;
          certified = Appends-nil cert;
        }

    by : (e : ReadFault) → (e ≡ reads.TooLarge → IsBeyond (2 ^ 40) schema)
        → Shrinks c strict schema file (unwritten out) (unwritten cert) (Err (unread roles.Schema e))
    by reads.Device h =
        let text = some_text schema in
        with_text text.0 text.1 (faults.Device roles.Schema 0) (λ bytes. (refl, (refl, refl)))
    by reads.TooLarge h =
        let text = long_text (2 ^ 40) schema (h refl) in
        with_text text.0 text.1 _ (λ bytes. (inl (inl (text.2, refl, refl)), (refl, refl)))
    by reads.Memory h =
        let text = some_text schema in
        with_text text.0 text.1 faults.Memory (λ bytes. (refl, refl))

-- ---- want of memory

-- nothing was merged
pub unshrunk : (choice : Choice) (strict : Bool) (schema file output certificate : Option (List ℕ))
    → Shrinks choice strict schema file (unwritten output) (unwritten certificate) (Err faults.Memory)
unshrunk choice strict schema file output certificate = record {
  text = (some_text schema).0;
  bytes = (some_text file).0;
  output = [];
  certificate = [];
  text_is = (some_text schema).1;
  bytes_are = (some_text file).1;
  answers = (refl, refl);
  written = Appends-nil output;
  certified = Appends-nil certificate;
}

-- it is the fault of no file
pub no_file_told : (told : Option Bool) → IfSome told (FileFailsAs {T = Summary} (Err faults.Memory))
no_file_told None = tt
no_file_told (Some each) = tt
