use Rattle.rme_process_file.proofs.texts.push_damage.Goals as goal

pub returns-in-Turn : goal.returns-in-Turn
returns-in-Turn c = rw (c.in-Turn.is, ← c.lock_name-in-Turn.ensures) c.push_word.ensures

pub returns-in-Mask : goal.returns-in-Mask
returns-in-Mask c = rw (c.in-Mask.is, ← c.lock_name-in-Mask.ensures) c.push_word-in-Mask.ensures
