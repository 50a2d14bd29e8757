use Rattle.rme_cli_messages.proofs.explain.refusal_advice.Goals as goal

-- The expected number does not affect the text.
pub returns-in-WrongNumber : goal.returns-in-WrongNumber
returns-in-WrongNumber c = rw c.in-WrongNumber.is (c.wrong_number.ensures c.in-WrongNumber.field-0)
