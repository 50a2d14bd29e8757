-- Parsed bytes are the encoding, the encoding is parsed, and nothing else is.
use Rattle.std.proofs.Common.{◌≡◌, ℕ, ◌^◌, ◌<◌, List, [], ◌++◌, Option, Some, None, sym, ap, ◌∙◌, arith, inl, inr}
use Rattle.std.proofs.lemmas.Option.{none-some, some_pair_parts, same_Some}
use Rattle.rme_words.specs.declared.shape.Shape.{Shape}
use Rattle.rme_words.specs.Words.{word_count}
use Rattle.rme_program.specs.declared.note.Entry.{Entry}
use Rattle.rme_core_image.specs.declared.header.ImageHeader.{ImageHeader}
use Rattle.rme_core_image.specs.Images.{header_bytes, image_header, IsImageVersion, version_omits_word, words_bytes, entries_bytes, BytesEncodeImage}
use Rattle.rme_core_image.specs.Parsing.{parse_many, parse_header, parse_word, parse_entries}
use Rattle.rme_core_image.proofs.Fields.{IsBytes}
use Rattle.rme_core_image.proofs.HeaderBytes.{IsSmallHeader, header_takes, header_again}
use Rattle.rme_core_image.proofs.WordBytes.{words_take, words_again}
use Rattle.rme_core_image.proofs.EntryBytes.{entries_take, entries_again}
use Rattle.rme_words.proofs.Shapes.{same_shape}

abbrev pub ReadsHeader : List ℕ → ImageHeader → List ℕ → Type 0
ReadsHeader bytes header rest = parse_header bytes ≡ Some (header, rest)

abbrev pub words_read : ℕ → Shape → List ℕ → Option (List ℕ × List ℕ)
words_read version shape bytes = parse_many (parse_word version shape) (word_count shape) [] bytes

pub is_spelled : (bytes : List ℕ) (header : ImageHeader) (after_header : List ℕ) (shape : Shape) (words after_words : List ℕ) (entries : List Entry)
    → IsBytes bytes → ReadsHeader bytes header after_header → image_header header.version shape ≡ header
    → words_read header.version shape after_header ≡ Some (words, after_words) → parse_entries after_words ≡ Some entries → BytesEncodeImage header.version bytes shape words entries
is_spelled bytes header after_header shape words after_words entries fits head same read last =
    let th = header_takes bytes header after_header fits head in
    let tw = words_take header.version shape after_header words after_words th.0.rest_fits read in
    let te = entries_take after_words entries tw.took.rest_fits last in
    let text : List ℕ = words_bytes (version_omits_word header.version shape) 0 words in
    let behind : after_header ≡ text ++ entries_bytes entries = tw.took.parts ∙ ap (λ (rest : List ℕ). text ++ rest) te.spelled in
    record {
      counted = tw.counted;
      small = tw.small;
      few = te.few;
      fitting = te.small;
      masks = tw.masks;
      spelled = th.0.parts ∙ ap (λ (rest : List ℕ). header_bytes header ++ rest) behind ∙ ap (λ (h : ImageHeader). header_bytes h ++ (text ++ entries_bytes entries)) (sym same);
    }

small_version : (version : ℕ) (shape : Shape) → IsImageVersion version shape → version < 2 ^ 8
small_version version shape (inl two) = omega (arith, two)
small_version version shape (inr one) = omega (arith, one.0)

module _ (version : ℕ) (shape : Shape) (words : List ℕ) (entries : List Entry) (bytes : List ℕ) (is : IsImageVersion version shape) (s : BytesEncodeImage version bytes shape words entries) where
  body : List ℕ
  body = words_bytes (version_omits_word version shape) 0 words ++ entries_bytes entries

  read_header : ReadsHeader bytes (image_header version shape) (words_bytes (version_omits_word version shape) 0 words ++ entries_bytes entries)
  read_header =
      let limits = shape.counted.limits in
      let small : IsSmallHeader (image_header version shape) = record {
        version = small_version version shape is;
        workers = omega (arith, limits.few_workers);
        locks = omega (arith, limits.few_locks);
        cells = omega (arith, limits.few_cells);
        jobs = omega (arith, limits.few_jobs);
      } in
      ap parse_header s.spelled ∙ header_again (image_header version shape) (words_bytes (version_omits_word version shape) 0 words ++ entries_bytes entries) small

  pub no_header : parse_header bytes ≡ None → ⊥
  no_header none = none-some _ (sym none ∙ read_header)

  -- The header that was parsed is the image's, and so are the bytes after it.
  record IsHeader (header : ImageHeader) (rest : List ℕ) : Type 0 where
    same : header ≡ image_header version shape
    behind : rest ≡ words_bytes (version_omits_word version shape) 0 words ++ entries_bytes entries

  one_header : (header : ImageHeader) (rest : List ℕ) → ReadsHeader bytes header rest → IsHeader header rest
  one_header header rest e = let p = some_pair_parts header (image_header version shape) rest _ (sym e ∙ read_header) in record { same = p.0; behind = p.1 }

  pub no_shape : (header : ImageHeader) (rest : List ℕ) → ReadsHeader bytes header rest → ((v : ℕ) (t : Shape) → IsImageVersion v t → image_header v t ≡ header → ⊥) → ⊥
  no_shape header rest e none = none version shape is (sym (one_header header rest e).same)

  module _ (header : ImageHeader) (rest : List ℕ) (t : Shape) (e : ReadsHeader bytes header rest) (same : image_header header.version t ≡ header) where
    pub one_version : header.version ≡ version
    one_version = ap (λ (h : ImageHeader). h.version) (one_header header rest e).same

    pub one_shape : t ≡ shape
    one_shape =
        let whole : image_header header.version t ≡ image_header version shape = same ∙ (one_header header rest e).same in
        same_shape t shape (ap (λ (h : ImageHeader). h.workers) whole) (ap (λ (h : ImageHeader). h.locks) whole) (ap (λ (h : ImageHeader). h.cells) whole) (ap (λ (h : ImageHeader). h.jobs) whole)

    read_words : words_read header.version t rest ≡ Some (words, entries_bytes entries)
    read_words =
        ap (λ (v : ℕ). words_read v t rest) one_version ∙ ap (λ (u : Shape). words_read version u rest) one_shape
        ∙ ap (λ (text : List ℕ). words_read version shape text) (one_header header rest e).behind
        ∙ words_again version shape words (entries_bytes entries) s.counted s.small s.masks

    pub no_words : words_read header.version t rest ≡ None → ⊥
    no_words none = none-some _ (sym none ∙ read_words)

    module _ (found after : List ℕ) (read : words_read header.version t rest ≡ Some (found, after)) where
      read_entries : parse_entries after ≡ Some entries
      read_entries =
          let p = some_pair_parts found words after (entries_bytes entries) (sym read ∙ read_words) in
          ap parse_entries p.1 ∙ entries_again entries s.few s.fitting

      pub one_words : found ≡ words
      one_words = (some_pair_parts found words after (entries_bytes entries) (sym read ∙ read_words)).0

      pub no_entries : parse_entries after ≡ None → ⊥
      no_entries none = none-some _ (sym none ∙ read_entries)

      pub one_entries : (last : List Entry) → parse_entries after ≡ Some last → last ≡ entries
      one_entries last e = same_Some last entries (sym e ∙ read_entries)
