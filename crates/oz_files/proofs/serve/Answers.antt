use Rattle.oz_files.proofs.serve.Goals as goal

pub returns-clause-refused : goal.returns-clause-refused
returns-clause-refused g c is run =
    let wrong = c.transfer-status.ensures.causes.words_fault is in
    c.words_of_a_transfer_have_no_fault.ensures _ wrong.0 run wrong.1
