-- What a file told when it was read.
use Rattle.batch_frame.specs.CarrierFile.{CarrierFile}
use Rattle.batch_frame.specs.declared.file.FileFrame.{FileFrame}

-- its separator, what its header tells, and its count
abbrev pub frame_of : CarrierFile → FileFrame
frame_of file = record { separator = file.separator; company = file.company; cycle = file.cycle; day = file.day; count = file.count }
