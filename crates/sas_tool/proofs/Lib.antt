mod Running
mod Putting
mod Jobbing
mod Answering
mod Judging
