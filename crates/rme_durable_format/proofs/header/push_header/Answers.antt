use Rattle.std.proofs.Common.{string_bytes, ap, ◌∙◌, ◌++◌, List, ℕ, ℤ}
use Rattle.rme_durable_format.specs.Headers.{header_values}
use Rattle.rme_durable_format.specs.HeaderTexts.{last_jobs_text, numbers_text, places_text}
use Rattle.rme_durable_format.specs.declared.header.LastJob.{LastJob}
use Rattle.rme_durable_format.proofs.Separating.{header_written}
use Rattle.rme_durable_format.proofs.header.push_header.Goals as goal

pub returns : goal.returns
returns c =
    let names = c.args.names.now in
    let first = string_bytes c.write.new.self in
    let third = string_bytes c.push_str.new.self in
    let fifth = string_bytes c.push_str-2.new.self in
    let seventh = string_bytes c.push_str-3.new.self in
    let second = string_bytes c.push_last_jobs.new.out in
    let fourth = string_bytes c.push_numbers.new.out in
    let sixth = string_bytes c.push_numbers-2.new.out in
    let eighth = string_bytes c.push_places.new.out in
    let words = c.in_ok-push_last_jobs.ensures ∙ ap (λ (l : List LastJob). first ++ last_jobs_text names l) c.as_slice.ensures.value in
    let lives = c.in_ok-push_numbers.ensures ∙ ap (λ (l : List ℕ). third ++ numbers_text l) c.as_slice-2.ensures.value in
    let numbers = c.in_ok-push_numbers-2.ensures ∙ ap (λ (l : List ℕ). fifth ++ numbers_text l) c.as_slice-3.ensures.value in
    let places = c.in_ok-push_places.ensures ∙ ap (λ (l : List ℤ). seventh ++ places_text l) c.as_slice-4.ensures.value in
    header_written c.push_str-4.result names (header_values c.args.header.now) (string_bytes c.args.out.now) first second third fourth fifth sixth seventh eighth (string_bytes c.push_str-4.new.self) c.in_ok-write.ensures.bytes words
    c.in_ok-push_str.ensures.bytes lives c.in_ok-push_str-2.ensures.bytes numbers c.in_ok-push_str-3.ensures.bytes places c.push_str-4.ensures.bytes
