-- Heads and their texts.
use Rattle.std.proofs.Common.{◌≡◌, ◌∙◌, ℕ, List, Ok, codes, refl, ap}
use Rattle.hex.proofs.HexLemmas.{decode_sized-encode_lower}
use Rattle.hex.specs.Hex.{decode_sized, encode_lower}
use Rattle.rme_replica.specs.EngineLogs.{HeadValue}
use Rattle.serde_json.specs.Data.{Data}
use Rattle.rme_etcd_requests.specs.HeadTexts.{HeadsReadBack, SaysHead, SaysNumber, SaysText, TellsOneHead}

pub reads_back : HeadsReadBack
reads_back head long bytes = record {
  address = refl;
  epoch = refl;
  sequence = refl;
  term = refl;
  digits = encode_lower head.writer;
  written = refl;
  writer = decode_sized-encode_lower head.writer 12 long bytes;
}

head_of : List ℕ → ℕ → ℕ → ℕ → List ℕ → HeadValue
head_of address epoch sequence term writer = record { address = address; epoch = epoch; sequence = sequence; term = term; writer = writer }

same_members : (a b : HeadValue) → a.address ≡ b.address → a.epoch ≡ b.epoch → a.sequence ≡ b.sequence → a.term ≡ b.term → a.writer ≡ b.writer
    → head_of a.address a.epoch a.sequence a.term a.writer ≡ head_of b.address b.epoch b.sequence b.term b.writer
same_members a b p q r s t = cc

equal_members : (a b : HeadValue) → a.address ≡ b.address → a.epoch ≡ b.epoch → a.sequence ≡ b.sequence → a.term ≡ b.term → a.writer ≡ b.writer → a ≡ b
unfolding head_of
equal_members a b p q r s t = same_members a b p q r s t

one_text : (name : List ℕ) (whole : Data) (a b : List ℕ) → SaysText name whole a → SaysText name whole b → a ≡ b
one_text name whole a b p q = cc

one_number : (name : List ℕ) (whole : Data) (a b : ℕ) → SaysNumber name whole a → SaysNumber name whole b → a ≡ b
one_number name whole a b p q = cc

one_writer : (digits others : List ℕ) (a b : List ℕ) → digits ≡ others → decode_sized digits 12 ≡ Ok a → decode_sized others 12 ≡ Ok b → a ≡ b
one_writer digits others a b e p q =
    let at : decode_sized digits 12 ≡ Ok b = ap (λ (d : List ℕ). decode_sized d 12) e ∙ q in cc

pub tells_one : TellsOneHead
tells_one whole a b p q = equal_members a b
    (one_text (codes "addr") whole _ _ p.address q.address) (one_number (codes "epoch") whole _ _ p.epoch q.epoch)
    (one_number (codes "seq") whole _ _ p.sequence q.sequence) (one_number (codes "term") whole _ _ p.term q.term)
    (one_writer p.digits q.digits _ _ (one_text (codes "writer") whole _ _ p.written q.written) p.writer q.writer)
