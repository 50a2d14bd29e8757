use Rattle.std.proofs.Common.{◌≡◌, ℕ, List, subst, arith}
use Rattle.std.specs.Prelude.{Some, None}
use Rattle.serde_json.specs.Data.{Data}
use Rattle.rme_line_json.specs.Values.{json_value_of}
use Rattle.rme_line_json.specs.View.{value_view}
use Rattle.rme_words.specs.declared.shape.Shape.{Shape}
use Rattle.rme_line_engine.specs.Engines.{engine_state_of}
use Rattle.rme_durable_format.specs.Headers.{HasLogVersion, IsLogVersion, IsPossibleHeader, HeaderValues, HasHeaderMembers, header_values}
use Rattle.rme_durable_format.specs.Recovery.{IsBadLog}
use Rattle.rme_durable_format.proofs.Stopping.{bad_cut, bad_from, bad_header, bad_second, bad_version, counts_from, err_is}
use Rattle.rme_durable_format.specs.Lives.{RecoversLives}
use Rattle.rme_durable_format.proofs.Leading.{begins_with, starts_from}
use Rattle.rme_durable_format.proofs.Living.{lives_from}
use Rattle.rme_durable_format.proofs.recovery.recover_log.Goals as goal

pub returns-in-TooLong : goal.returns-in-TooLong
returns-in-TooLong g c = record {
  ok = tt;
  header = tt;
  lives = tt;
  lines = tt;
  err = bad_cut c.args.bytes.now c.next_line.new.line.items _ _ c.in_ok-cut.cut c.in_ok-reader.ensures.bytes c.in_ok-cut.ensures.cut c.in-TooLong.is;
}

pub returns-in_default-clause-err : goal.returns-in_default-clause-err
returns-in_default-clause-err g c =
    let none = rw c.in_default.is at c.in_ok-header.ensures in
    let P : List ℕ → Type 0 = λ (line : List ℕ). (value : Data) → (json_value_of line ≡ Some value) × IsLogVersion value → ⊥ in
    bad_version c.args.bytes.now c.next_line.new.line.items _ _ c.in_ok-cut.cut c.in_ok-reader.ensures.bytes c.in_ok-cut.ensures.cut c.in-Line.is (subst P c.as_slice.ensures.value none)

pub returns-in-Some-2 : goal.returns-in-Some-2
returns-in-Some-2 g c =
    let value = value_view c.in-Some.header in
    let names = c.in-Some-into_world.names in
    let reads = rw c.in-Some.is at c.in_ok-header.ensures in
    let R : List ℕ → Type 0 = λ (line : List ℕ). (json_value_of line ≡ Some value) × IsLogVersion value in
    let tells = rw c.in-Some-2.is at c.in_ok-header-2.ensures in
    let past = header_values c.in-Some-2.header in
    let T : Shape → Type 0 = λ (shape : Shape). HasHeaderMembers names value past × IsPossibleHeader shape past in
    record {
      ok = starts_from c.args.bytes.now c.next_line.new.line.items _ _ c.in_ok-cut.cut names c.in-Some-into_world.tallied _ _ c.in_ok-reader.ensures.bytes c.in_ok-cut.ensures.cut c.in-Line.is c.in_ok-engine.ensures
          c.in_ok-lines.ensures.ok c.in-Some-into_world.ensures;
      header = begins_with c.args.bytes.now c.next_line.new.line.items _ _ c.in_ok-cut.cut names c.in-Some-into_world.tallied.world.shape value past c.in_ok-reader.ensures.bytes c.in_ok-cut.ensures.cut c.in-Line.is
          (subst R c.as_slice.ensures.value reads) (subst T c.shape.ensures tells);
      lives = subst (λ (begun : List ℕ). RecoversLives c.args.bytes.now begun c.replay_lines.new.lives.items) (c.in_ok-lives.ensures names past tells.0)
          (lives_from c.args.bytes.now c.next_line.new.line.items _ _ c.in_ok-cut.cut _ _ c.in_ok-lives.lives.items c.replay_lines.new.lives.items c.in_ok-reader.ensures.bytes c.in_ok-cut.ensures.cut c.in-Line.is c.in_ok-engine.ensures
          c.in_ok-lines.ensures.lives);
      lines = counts_from c.args.bytes.now c.next_line.new.line.items _ _ c.in_ok-cut.cut _ c.in_ok-reader.ensures.bytes c.in_ok-cut.ensures.cut c.in-Line.is c.in_ok-lines.ensures.count;
      err = tt;
    }

pub returns-in_err-lines-clause-err : goal.returns-in_err-lines-clause-err
returns-in_err-lines-clause-err g c =
    let bytes = c.args.bytes.now in
    let value = value_view c.in-Some.header in
    let R : List ℕ → Type 0 = λ (line : List ℕ). (json_value_of line ≡ Some value) × IsLogVersion value in
    let read = subst R c.as_slice.ensures.value (rw c.in-Some.is at c.in_ok-header.ensures) in
    let version : HasLogVersion c.next_line.new.line.items = record { value = value; reads = read.0; version = read.1 } in
    let bad = bad_from bytes c.next_line.new.line.items _ _ c.in_ok-cut.cut _ _ c.in_ok-reader.ensures.bytes c.in_ok-cut.ensures.cut c.in-Line.is version c.in_ok-engine.ensures c.in_err-lines.ensures.err in
    err_is c.from_residual-in_err-lines.result c.in_err-lines.field-0.0 (λ why. IsBadLog bytes why) c.from_residual-in_err-lines.ensures.1 bad

pub returns-in_default-into_world-clause-err : goal.returns-in_default-into_world-clause-err
returns-in_default-into_world-clause-err g c =
    let state = engine_state_of c.replay_lines.new.engine in
    let closed : state.world ≡ None = grind arith in
    let value = value_view c.in-Some.header in
    let R : List ℕ → Type 0 = λ (line : List ℕ). (json_value_of line ≡ Some value) × IsLogVersion value in
    let read = subst R c.as_slice.ensures.value (rw c.in-Some.is at c.in_ok-header.ensures) in
    let version : HasLogVersion c.next_line.new.line.items = record { value = value; reads = read.0; version = read.1 } in
    bad_second c.args.bytes.now c.next_line.new.line.items _ _ c.in_ok-cut.cut _ state c.in_ok-reader.ensures.bytes c.in_ok-cut.ensures.cut c.in-Line.is version c.in_ok-engine.ensures c.in_ok-lines.ensures.ok closed

pub returns-clause-err : goal.returns-clause-err
returns-clause-err g c =
    let value = value_view c.in-Some.header in
    let names = c.in-Some-into_world.names in
    let reads = rw c.in-Some.is at c.in_ok-header.ensures in
    let R : List ℕ → Type 0 = λ (line : List ℕ). (json_value_of line ≡ Some value) × IsLogVersion value in
    let read = subst R c.as_slice.ensures.value reads in
    let none = rw c.in-None.is at c.in_ok-header-2.ensures in
    let N : Shape → Type 0 = λ (shape : Shape). (past : HeaderValues) → HasHeaderMembers names value past × IsPossibleHeader shape past → ⊥ in
    bad_header c.args.bytes.now c.next_line.new.line.items _ _ c.in_ok-cut.cut names c.in-Some-into_world.tallied _ _ value c.in_ok-reader.ensures.bytes c.in_ok-cut.ensures.cut c.in-Line.is c.in_ok-engine.ensures
    c.in_ok-lines.ensures.ok c.in-Some-into_world.ensures read.0 (subst N c.shape.ensures none)
