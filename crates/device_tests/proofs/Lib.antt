-- What tests of a device rest on.
mod OneStream
