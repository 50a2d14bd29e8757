-- The receipt that a client gets: that of a world, whose definitions allow numbers of any size.
use Rattle.rme_program.specs.declared.note.Receipt.{Receipt}
use Rattle.rme_line_text.specs.declared.client_receipt.ClientReceipt.{ClientReceipt}

abbrev pub as_receipt : ClientReceipt → Receipt
as_receipt told = record {
  worker = told.worker;
  lock = told.lock;
  number = told.number;
  place = told.place;
  reply = told.reply;
}
